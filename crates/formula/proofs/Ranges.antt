-- What the guards' tests say of the numbers that they test.
use Prim.Native.Nat.{ℕ, suc, ◌≤◌}
use mathlib.Core.Path.{◌≡◌, sym, ◌∙◌}
use mathlib.Core.Bool.{true}
use native.Mathlib.Omega.{arith}
use lib.Dec.{leb}
use lib.IntN.{ℤ, pos, negsuc, nat_abs}
use borrow.Author.Tests.{leb-true}
use Rattle.std.proofs.Math.Bool.{and-true}
use Rattle.formula.specs.Plain.{inside, is_usual, Usual}
use Rattle.formula.proofs.Bounds.{split}

pub inside_is : (n m : ℕ) (z : ℤ) → inside n m z ≡ true → {k : ℕ} → suc n ≤ k → m ≤ k → nat_abs z ≤ k
inside_is n m (pos a) e h l = let t = leb-true a m e in omega arith
inside_is n m (negsuc a) e h l = let t = leb-true a n (sym (and-true (leb a n)) ∙ e) in omega arith

pub usual-is : (z : ℤ) → is_usual z ≡ true → Usual z
usual-is (pos a) e =
    let t = leb-true a 478000 e in
    record {
      size = omega arith;
      pressure = split a 128000 (λ z. nat_abs z ≤ 350000) (λ u. omega arith) (λ u. omega arith);
      humidity = split a 76800 (λ z. nat_abs z ≤ 401200) (λ u. omega arith) (λ u. omega arith);
    }
usual-is (negsuc a) e =
    let t = leb-true a 221999 (sym (and-true (leb a 221999)) ∙ e) in
    record { size = omega arith; pressure = omega arith; humidity = omega arith }
