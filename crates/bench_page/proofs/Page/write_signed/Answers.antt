-- A minus where the number is below zero, and then how far from zero it lies.
use Rattle.std.proofs.Common.{ℕ, arith, ltb-true, true, false, [], ◌∷◌, ◌≡◌, subst, ℤ, pos, negsuc, nat_abs}
use lib.Dec.{T}
use lib.Signed.{lt_z}
use mir.Facts.{to_z-of_z}
use Rattle.bench_page.specs.declared.Page.{Page}
use Rattle.bench_page.specs.Page.{◌▹◌, written}
use Rattle.bench_page.specs.Digits.{sign, signed, decimal}
use Rattle.bench_page.proofs.Laws.{joined}
use Rattle.bench_page.proofs.Page.write_signed.Goals as goal
use Rattle.bench_page.proofs.Page.write_signed.Goals.{then-z-lt0, else-z-lt0}

module _ (p q : Page) where
  minus : (s : Page) (z : ℤ) → lt_z z (pos 0) ≡ true → s ≡ p ▹ 45 ∷ [] → q ≡ s → q ≡ p ▹ sign z
  minus s (pos k) h e f = absurd (omega (arith, ltb-true k 0 h))
  minus s (negsuc k) h e f = rw e at f

  plain : (z : ℤ) → lt_z z (pos 0) ≡ false → q ≡ p → q ≡ p ▹ sign z
  unfolding written
  plain (pos k) h e = e
  plain (negsuc k) h e = absurd (subst T h tt)

  then_far : (r : Page) (z : ℤ) (n : ℕ) → n ≡ nat_abs z → q ≡ p ▹ sign z → r ≡ q ▹ decimal n → r ≡ p ▹ signed z
  unfolding signed
  then_far r z n h e f = joined _ _ p e (rw h at f)

pub returns : goal.returns
returns c =
    let fits = c.ranges.z in
    then_far _ _ _ _ _ (rw (to_z-of_z fits) at c.magnitude.ensures) (elim c.if-z-lt0.branch [
      | then-z-lt0 w ↦ minus _ _ _ _ (rw (to_z-of_z fits) at w.if-z-lt0.true) w.write_byte.ensures w.self-is
      | else-z-lt0 w ↦ plain _ _ _ (rw (to_z-of_z fits) at w.if-z-lt0.false) w.self-is
    ]) c.write_decimal.ensures
