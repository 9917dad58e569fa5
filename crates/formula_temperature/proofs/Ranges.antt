-- What the guard's test says of a count.
use Prim.Native.Nat.{ℕ, zero, suc, ◌+◌, ◌*◌, ◌/◌, ◌≤◌, ◌<◌}
use mathlib.Core.Path.{◌≡◌}
use mathlib.Core.Bool.{true}
use native.Mathlib.Omega.{arith}
use native.Mathlib.Nat.{mul-le-mul, lt_of_not-le, not-le_of_lt}
use lib.IntN.{ℤ, pos, negsuc, nat_abs, ◌-ℤ◌, ◌*ℤ◌}
use lib.Signed.{lt_z}
use borrow.Author.Tests.{ltb-true}
use Rattle.formula.proofs.Bounds.{split}
use Rattle.formula_temperature.specs.Plain.{distance, is_near, Near}

-- ---- a square tells how far a number lies from zero

root : (n : ℕ) → n * n < 268435456 → n ≤ 16383
root n h = let m : n < 16384 = lt_of_not-le (λ t. not-le_of_lt h (mul-le-mul t t)) in omega arith

square-is : (z : ℤ) → lt_z (z *ℤ z) (pos 268435456) ≡ true → nat_abs z ≤ 16383
square-is (pos n) e = root n (ltb-true (n * n) 268435456 e)
square-is (negsuc n) e = root (suc n) (ltb-true (suc n * suc n) 268435456 e)

pub near-is : (t1 count : ℕ) → is_near t1 count ≡ true → Near t1 count
near-is t1 count e = record { size = square-is (distance t1 count) e }

-- two unsigned numbers near each other, and back
near-are : (a b n : ℕ) → nat_abs (pos a -ℤ pos b) ≤ n → (a ≤ b + n) × (b ≤ a + n)
near-are a zero n h = (omega arith, omega arith)
near-are a (suc b) n h =
    split a (suc b) (λ z. nat_abs z ≤ n → (a ≤ suc b + n) × (suc b ≤ a + n)) (λ l k. (omega arith, omega arith)) (λ l k. (omega arith, omega arith)) h

near_by : (a b n : ℕ) → a ≤ b + n → b ≤ a + n → nat_abs (pos a -ℤ pos b) ≤ n
near_by a zero n h k = omega arith
near_by a (suc b) n h k = split a (suc b) (λ z. nat_abs z ≤ n) (λ l. omega arith) (λ l. omega arith)

-- a count's eighth and twice T1 are near where its sixteenth and T1 are
pub twice-near : (n t : ℕ) → nat_abs (pos (n / 16) -ℤ pos t) ≤ 16383 → nat_abs (pos (n / 8) -ℤ pos (t * 2)) ≤ 32767
twice-near n t h = let k = near-are (n / 16) t 16383 h in near_by (n / 8) (t * 2) 32767 (omega arith) (omega arith)
