-- Two answers that a promise allows are equal: the paper's number and values leave only one.
use Prim.Native.Nat.{ℕ}
use mathlib.Core.Path.{◌≡◌, ap}
use Rattle.std.specs.Prelude.{Result, Ok, Err}
use Rattle.paper.specs.declared.Refusal.{Refusal}
use Rattle.paper.specs.Answers.{refusal}
use Rattle.paper.proofs.Answers.{same_number, same-values}
use Rattle.waiting.specs.declared.Ready.{Ready}
use Rattle.waiting.specs.declared.NeverReady.{NeverReady}
use Rattle.waiting.specs.Waiting.{wait_answer}
use Rattle.waiting.specs.Polling.{poll_answer}

pub one-wait : (a b : Result ℕ Refusal) → wait_answer a ≡ wait_answer b → a ≡ b
one-wait (Ok m) (Ok n) e = cc (same-values e)
one-wait (Ok m) (Err why) e = cc (same-values e)
one-wait (Err why) (Ok n) e = cc (same-values e)
one-wait (Err why) (Err other) e = ap (λ number. Err (refusal number)) (same_number e)

abbrev ready : ℕ → ℕ → Ready
ready place polls = record { place = place; polls = polls }

abbrev unready : ℕ → NeverReady
unready polls = record { polls = polls }

pub one-poll : (a b : Result Ready NeverReady) → poll_answer a ≡ poll_answer b → a ≡ b
one-poll (Ok a) (Ok b) e =
    let v = same-values e in
    let same : ready a.place a.polls ≡ ready b.place b.polls = cc in
    ap Ok same
one-poll (Ok a) (Err b) e = cc (same_number e)
one-poll (Err a) (Ok b) e = cc (same_number e)
one-poll (Err a) (Err b) e =
    let v = same-values e in
    let same : a.polls ≡ b.polls = cc in
    ap (λ polls. Err (unready polls)) same
