-- From what can't be, as two constructors that are equal, anything follows: `apart (cc)` where `cc` finds them.
use Prim.Native.Nat.{ℕ}
use native.Mathlib.Omega.{arith}
use mathlib.Core.Path.{◌≡◌}

pub apart : {X : Type 0} → ◌≡◌ {A = ℕ} 0 1 → X
apart z = absurd (omega arith)
