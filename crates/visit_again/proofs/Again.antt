-- A number's digits are a decimal by themselves.
use Rattle.std.proofs.Common.{ℕ, ◌+◌, ◌≤◌, ◌<◌}
use Rattle.std.proofs.Common.{arith}
use borrow.Author.Tests.{le-ltb, le-leb, eq-eqb}
use Rattle.std.proofs.Common.{List, [], ◌++◌, append-nil}
use Rattle.std.proofs.Common.{◌≡◌, refl, ap, sym, ◌∙◌}
use Rattle.std.proofs.Common.{length, Some, Ok}
use Rattle.bench_page.specs.Page.{letters}
use Rattle.bench_page.specs.Digits.{decimal, spelled}
use Rattle.visit.specs.Steps.{value, missing as absent}
use Rattle.visit_typed.specs.Typed.{digits, digits_on, is_decimal, number, time, missing}
use Rattle.visit_again.specs.Again.{ReadAgain}
use Rattle.visit_again.proofs.Digits.{bound, read-spelled, how-long}
use Rattle.visit_again.proofs.Degrees.{warm-or-cold}

whole : (n : ℕ) → n < bound 9 → digits_on 0 (spelled 19 n) 0 ≡ record { value = n; end = length (spelled 19 n) }
unfolding digits_on
whole n h = ap (λ (s : List ℕ). digits_on 0 s 0) (sym (append-nil (spelled 19 n))) ∙ read-spelled 9 19 n [] 0 h (omega arith) (omega arith) ∙ rw (at-start (length (spelled 19 n)))
  where
    at-start : (k : ℕ) → 0 + k ≡ k
    at-start k = omega arith

numbered : (n : ℕ) → n < bound 9 → number (decimal n) ≡ Some n
unfolding number digits decimal is_decimal
numbered n h =
    let w = how-long 9 19 n h (omega arith) in
    let some : 1 ≤ length (spelled 19 n) = w.some in
    let few : length (spelled 19 n) ≤ 10 = omega (arith, w.few) in
    rw (whole n h, le-ltb (length (spelled 19 n)) 1 some, le-leb (length (spelled 19 n)) 10 few, eq-eqb (length (spelled 19 n)) (length (spelled 19 n)) refl)

timed : (n : ℕ) → n ≤ 0xFFFFFFFF → time (decimal n) ≡ Ok (value n)
unfolding time
timed n h = rw (numbered n (omega arith), le-ltb 0xFFFFFFFF n h)

lost : (n : ℕ) → 10 ≤ n → n ≤ 14 → missing (letters "missing " ++ decimal n) ≡ Ok (absent n)
unfolding missing
lost n h l = rw (numbered n (omega arith), le-ltb n 10 h, le-ltb 14 n l)

pub read_again : ReadAgain
read_again = record { time = timed; temperature = warm-or-cold; missing = lost }
