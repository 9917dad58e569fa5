-- A flag as a number.
use mathlib.Core.Bool.{Bool, true, false}
use mathlib.Core.Path.{◌≡◌, refl}
use mir.Val.{bool_byte}
use Rattle.bench_outcome.specs.Outcomes.{bit}

pub flag : (b : Bool) → bool_byte b ≡ bit b
flag true = refl
flag false = refl
