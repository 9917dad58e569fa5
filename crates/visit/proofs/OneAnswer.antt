-- Two answers that a promise allows are equal: a refusal's number is not 0, and so the paper's number and values leave only one case of the result.
use Prim.Native.Nat.{ℕ, ◌<◌}
use mathlib.Core.List.{[], ◌∷◌}
use mathlib.Core.Path.{◌≡◌, sym, ap}
use native.Mathlib.Omega.{arith}
use Rattle.std.specs.Prelude.{Result, Ok, Err, IsErrAnd}
use Rattle.paper.specs.declared.Refusal.{Refusal}
use Rattle.paper.proofs.Answers.{same_number, same-values}
use Rattle.visit.specs.declared.Fault.{Fault}
use Rattle.visit.specs.declared.RecordError.{RecordError}
use Rattle.visit.specs.declared.RecordError.TheVariants.{Whole, At}
use Rattle.visit.specs.Answers.{record_answer, Tells}

never : {X : Type 0} (n : ℕ) → 0 < n → 0 ≡ n → X
never n h e = absurd (omega arith)

same-refusal : (r q : Refusal) → r.number ≡ q.number → r ≡ q
same-refusal r q e = λ i. record { number = e i }

same-fault : (f g : Fault) → f.number ≡ g.number → f.place ≡ g.place → f ≡ g
same-fault f g e h = λ i. record { number = e i; place = h i }

same-place : (m n : ℕ) → m ∷ [] ≡ n ∷ [] → m ≡ n
same-place m n e = cc

pub one-answer : (a b : Result ℕ RecordError) → Tells a → Tells b → record_answer a ≡ record_answer b → a ≡ b
one-answer (Ok m) (Ok n) g h e = cc (same-values e)
one-answer (Ok m) (Err (Whole r)) g h e = cc (same-values e)
one-answer (Ok m) (Err (At f)) g h e = never f.number h (same_number e)
one-answer (Err (Whole r)) (Ok n) g h e = cc (same-values e)
one-answer (Err (Whole r)) (Err (Whole q)) g h e = ap (λ (x : Refusal). Err (Whole x)) (same-refusal r q (same_number e))
one-answer (Err (Whole r)) (Err (At f)) g h e = cc (same-values e)
one-answer (Err (At f)) (Ok n) g h e = never f.number g (sym (same_number e))
one-answer (Err (At f)) (Err (Whole r)) g h e = cc (same-values e)
one-answer (Err (At f)) (Err (At j)) g h e =
    ap (λ (x : Fault). Err (At x)) (same-fault f j (same_number e) (same-place f.place j.place (same-values e)))

-- a fault that is passed on
pub passed_on : (r : Result ℕ RecordError) (f : Fault) → IsErrAnd r (λ e. e ≡ At f) → r ≡ Err (At f)
passed_on (Ok n) f g = absurd g
passed_on (Err e) f g = rw g
