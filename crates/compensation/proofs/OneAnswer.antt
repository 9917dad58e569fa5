-- Two answers that a promise allows are equal: the paper's numbers and values leave only one case each.
use mathlib.Core.Path.{◌≡◌, ap}
use mathlib.Core.List.{List, [], ◌∷◌}
use Prim.Native.Nat.{ℕ}
use lib.ListN.{get_or}
use Rattle.std.specs.Prelude.{Ok, Err}
use Rattle.paper.specs.Answers.{SignedAnswer, refused, refusal}
use Rattle.paper.proofs.Answers.{same_number, same-values}
use Rattle.formula.specs.Answers.{TemperatureAnswer, ChannelAnswer, temperature_answer, channel_answer}
use Rattle.formula.proofs.OneAnswer.{one-temperature, one-channel}
use Rattle.compensation.specs.declared.Reading.{Reading}
use Rattle.compensation.specs.Compensation.{Answer, reading_answer}

abbrev channels : Reading → List SignedAnswer
channels r = temperature_answer r.temperature ∷ channel_answer r.pressure ∷ channel_answer r.humidity ∷ []

abbrev made : TemperatureAnswer → ChannelAnswer → ChannelAnswer → Reading
made t p h = record { temperature = t; pressure = p; humidity = h }

same-channel : {xs ys : List SignedAnswer} → xs ≡ ys → (k : ℕ) → get_or xs k (refused 0) ≡ get_or ys k (refused 0)
same-channel e k = ap (λ (l : List SignedAnswer). get_or l k (refused 0)) e

same-reading : (r s : Reading) → channels r ≡ channels s → r ≡ s
same-reading r s e =
    let t : r.temperature ≡ s.temperature = one-temperature r.temperature s.temperature (same-channel e 0) in
    let p : r.pressure ≡ s.pressure = one-channel r.pressure s.pressure (same-channel e 1) in
    let h : r.humidity ≡ s.humidity = one-channel r.humidity s.humidity (same-channel e 2) in
    let q : made r.temperature r.pressure r.humidity ≡ made s.temperature s.pressure s.humidity = rw (t, p, h) in
    q

pub one-reading : (a b : Answer) → reading_answer a ≡ reading_answer b → a ≡ b
unfolding reading_answer
one-reading (Ok r) (Ok s) e = ap Ok (same-reading r s (same-values e))
one-reading (Ok r) (Err n) e = cc (same-values e)
one-reading (Err m) (Ok s) e = cc (same-values e)
one-reading (Err m) (Err n) e = ap (λ (number : ℕ). Err (refusal number)) (same_number e)
