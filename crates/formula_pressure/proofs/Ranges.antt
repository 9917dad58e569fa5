-- What the guards' tests say of what comes in, the dividend and the divisor.
use Prim.Native.Nat.{ℕ, ◌≤◌}
use mathlib.Core.Path.{◌≡◌, sym}
use mathlib.Core.Bool.{true, ◌&&◌, true≢false}
use native.Mathlib.Omega.{arith}
use lib.Dec.{ltb, leb}
use lib.IntN.{ℤ, pos, negsuc, nat_abs}
use lib.Signed.{le_z, lt_z}
use mir.Syntax.{w64}
use mir.Val.{SFits}
use borrow.Author.Tests.{ltb-true, leb-true}
use Rattle.laws.specs.Tests.{both}
use Rattle.formula.specs.Plain.{is_usual}
use Rattle.formula.proofs.Ranges.{usual-is}
use Rattle.formula_pressure.specs.Plain.{is_plain, Plain, is_dividing, Dividing}

from_zero : (n : ℕ) (x : ℤ) → (le_z (pos 0) x && lt_z x (pos n)) ≡ true → nat_abs x ≤ n
from_zero n (pos a) e = let l = ltb-true a n (both (leb 0 a) (ltb a n) e).1 in omega arith
from_zero n (negsuc a) e = absurd (true≢false (sym e))

at_least : (l : ℕ) (y : ℤ) → SFits w64 y → le_z (pos l) y ≡ true → (l ≤ nat_abs y) × (nat_abs y ≤ 9223372036854775807)
at_least l (pos a) f e = let h = f.sfits in (leb-true l a e, omega arith)
at_least l (negsuc a) f e = absurd (true≢false (sym e))

pub dividing-is : (x y : ℤ) → SFits w64 y → is_dividing x y ≡ true → Dividing x y
dividing-is x y f e =
    let h = both (le_z (pos 0) x && lt_z x (pos 2251799813685248)) (le_z (pos 134217728) y) e in
    let d = at_least 134217728 y f h.1 in
    record { dividend = from_zero 2251799813685248 x h.0; divisor = d.0; most = d.1 }

pub plain-is : (p1 : ℕ) (fine : ℤ) (count : ℕ) → is_plain p1 fine count ≡ true → Plain p1 fine count
plain-is p1 fine count e =
    let h = both (is_usual fine && leb p1 45000) (leb count 1048576) e in
    let k = both (is_usual fine) (leb p1 45000) h.0 in
    record { usual = usual-is fine k.0; p1-most = leb-true p1 45000 k.1; count_most = leb-true count 1048576 h.1 }
