-- The last digit alone, or after those of a tenth of the number.
use Prim.Native.Nat.{ℕ, ◌<◌, ◌≤◌, ◌/◌, ◌^◌}
use native.Mathlib.Omega.{arith}
use mathlib.Core.List.{[], ◌∷◌}
use mathlib.Core.Path.{◌≡◌}
use Rattle.bench_page.specs.declared.Page.{Page}
use Rattle.bench_page.specs.Page.{◌▹◌}
use Rattle.bench_page.specs.Digits.{last_digit, decimal}
use Rattle.bench_page.proofs.Laws.{joined, decimal-one, decimal-more}
use Rattle.bench_page.proofs.Page.+write_decimal.Goals as goal
use Rattle.bench_page.proofs.Page.+write_decimal.Goals.{then-n-ge10, else-n-ge10}

module _ (n d : ℕ) (p r : Page) (is : d ≡ last_digit n) where
  one : (q : Page) → n < 10 → q ≡ p → r ≡ q ▹ d ∷ [] → r ≡ p ▹ decimal n
  one q h e f = rw (← decimal-one n h) (rw (e, is) at f)

  more : (q s : Page) → 10 ≤ n → n < 2 ^ 64 → q ≡ p ▹ decimal (n / 10) → s ≡ q → r ≡ s ▹ d ∷ [] → r ≡ p ▹ decimal n
  more q s h l e m f = rw (← decimal-more n h (omega arith)) (joined _ _ p e (rw (m, is) at f))

pub returns : goal.returns
returns t c = elim c.if-n-ge10.branch [
  | then-n-ge10 w ↦ more _ _ _ _ c.last_digit.ensures _ _ w.if-n-ge10.true (omega (arith, c.ranges.n)) w.write_decimal.ensures w.self-is c.write_byte.ensures
  | else-n-ge10 w ↦ one _ _ _ _ c.last_digit.ensures _ (omega (arith, w.if-n-ge10.false)) w.self-is c.write_byte.ensures
]
