-- `temperature::guards::is_near` meets its contract: the distance and its square are worked out within 64 bits.
use Prim.Native.Nat.{◌/◌}
use native.Mathlib.Omega.{arith}
use mathlib.Core.Path.{refl}
use lib.IntN.{pos, ◌-ℤ◌}
use Rattle.steps.specs.declared.Signed.TheVariants.{Bits64}
use Rattle.steps.specs.Work.{num, step₁, step₂}
use lib.Signed.{shr_z}
use Rattle.formula.specs.Plain.{Gives}
use Rattle.formula.proofs.Bounds.{local, fit, back, natural, floored, minus, times}
use Rattle.formula_temperature.proofs.guards.is_near.Goals as goal
use Rattle.formula_temperature.proofs.guards.is_near.Goals.{Start}

distance :
    (c : Start) →
    Gives Bits64 268500990
    (step₂ ◌-ℤ◌ (step₁ (λ x. shr_z x 16) (num c.args.count)) (num c.args.t1))
    (local (pos (c.args.count / 16)) -ℤ local (pos c.args.t1))
distance c =
    minus (floored {m = 268435455} c.args.count 4 (omega arith) refl) (natural {m = 65535} c.args.t1 (omega arith) refl) refl

pub overflow_mul-result : goal.overflow_mul-result
overflow_mul-result c = fit (times (distance c) (distance c) refl)

pub returns : goal.returns
returns c =
    let n = back (floored {w = Bits64} {m = 268435455} c.args.count 4 (omega arith) refl) in
    let t = back (natural {w = Bits64} {m = 65535} c.args.t1 (omega arith) refl) in
    let d = back (distance c) in
    let s = back (times (distance c) (distance c) refl) in
    rw (s, d, n, t)
