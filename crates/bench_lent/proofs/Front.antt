-- A length within the longest is within a buffer of the longest.
use Prim.Native.Nat.{ℕ, ◌≤◌}
use mathlib.Core.List.{List}
use mathlib.Core.Path.{◌≡◌}
use native.Mathlib.Omega.{arith}
use lib.ListN.{length}

pub within-whole : (n : ℕ) (whole : List ℕ) → n ≤ 256 → 256 ≡ length whole → n ≤ length whole
within-whole n whole h e = omega (arith, h, e)
