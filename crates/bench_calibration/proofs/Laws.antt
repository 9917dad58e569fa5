-- A word of 16 or 8 bits as a number of 32 is the same number.
use mathlib.Core.Path.{◌≡◌, ◌∙◌}
use Prim.Native.Nat.{ℕ, ◌<◌}
use native.Mathlib.Omega.{arith}
use lib.IntN.{ℤ, pos}
use mir.Facts.{to_z-of_z, to_z_pos, sfits_widen}
use mir.Syntax.{w8, w16, w32}
use mir.Val.{SFits, to_z, of_z}

abbrev pub Same16 : ℤ → Type 0
Same16 z = to_z w32 (of_z w32 (to_z w16 (of_z w16 z))) ≡ z

abbrev pub Same8 : ℤ → Type 0
Same8 z = to_z w32 (of_z w32 (to_z w8 (of_z w8 z))) ≡ z

abbrev pub Plain : ℕ → Type 0
Plain n = to_z w32 n ≡ pos n

-- a word without a sign
pub plain : (n : ℕ) → n < 65536 → Plain n
plain n h = to_z_pos w32 {n = n} (omega arith)

module _ (z : ℤ) where
  pub word_fits : SFits w16 z → SFits w32 (to_z w16 (of_z w16 z))
  word_fits h = rw (to_z-of_z h) (sfits_widen tt h)

  pub octet-fits : SFits w8 z → SFits w32 (to_z w8 (of_z w8 z))
  octet-fits h = rw (to_z-of_z h) (sfits_widen tt h)

  pub word : SFits w16 z → Same16 z
  word h = to_z-of_z (word_fits h) ∙ to_z-of_z h

  pub octet : SFits w8 z → Same8 z
  octet h = to_z-of_z (octet-fits h) ∙ to_z-of_z h
