-- Words of 8 bits, with a sign and without one. Assumes nothing.
use Prim.Native.Nat.{ℕ, ◌<◌}
use mathlib.Core.Path.{◌≡◌, refl}
use mathlib.Core.Bool.{Bool, true, false, cond}
use native.Mathlib.Omega.{arith}
use lib.IntN.{ℤ, pos, negsuc}
use mir.Syntax.{w8}
use mir.Val.{SFits}
use borrow.Author.Tests.{le-leb}
use Rattle.std.specs.Prelude.{Some, None}
use Rattle.onegrish_kept.specs.Words.{is_byte, is_signed_byte}

pub byte-is : (n : ℕ) → n < 256 → is_byte (pos n) ≡ true
byte-is n h = rw (le-leb 0 n (omega arith), le-leb n 255 (omega arith))

pub signed-byte-is : (z : ℤ) → SFits w8 z → is_signed_byte z ≡ true
signed-byte-is (pos n) f = let h = f.sfits in rw (le-leb n 127 (omega arith))
signed-byte-is (negsuc n) f = let h = f.sfits in rw (le-leb n 127 (omega arith))

-- ---- what is answered where a test holds

module _ {A : Type 0} (x : A) where
  pub refused-by : (test : Bool) → None ≡ cond test (Some x) None → test ≡ false
  refused-by true e = cc
  refused-by false e = refl

  pub answered-by : (test : Bool) {y : A} → Some y ≡ cond test (Some x) None → (test ≡ true) × (y ≡ x)
  answered-by true e = (refl, cc)
  answered-by false e = cc
