-- `humidity::plain::correct` meets its contract: each step stays within its width, by the bounds of its operands.
use Prim.Native.Nat.{◌≤◌}
use mathlib.Core.Path.{refl}
use lib.IntN.{pos}
use Rattle.std.proofs.Common.{rules}
use Rattle.steps.specs.declared.Signed.TheVariants.{Bits32}
use Rattle.steps.specs.Work.{given, num}
use Rattle.formula_humidity.specs.Humidity.{correction_line}
use Rattle.formula.specs.Plain.{Gives}
use Rattle.formula.proofs.Bounds.{fit, within, plainly, natural, down, times, minus}
use Rattle.formula_humidity.proofs.plain.correct.Goals as goal
use Rattle.formula_humidity.proofs.plain.correct.Goals.{Start}

v : (c : Start) → Gives Bits32 1000000000 (given c.args.v) c.args.v
v c = plainly c.requires.size refl

h1 : (c : Start) → Gives Bits32 255 (num c.args.words.h1) (pos c.args.words.h1)
h1 c = let h : c.args.words.h1 ≤ 255 = search rules in natural c.args.words.h1 h refl

pub overflow_mul-result-2 : goal.overflow_mul-result-2
overflow_mul-result-2 c = fit (times (down (times (down (v c.before) 15 refl) (down (v c.before) 15 refl) refl) 7 refl) (h1 c.before) refl)

pub overflow_sub-result : goal.overflow_sub-result
overflow_sub-result c =
    let square = down (times (down (v c.before) 15 refl) (down (v c.before) 15 refl) refl) 7 refl in
    fit (minus (v c.before) (down (times square (h1 c.before) refl) 4 refl) refl)

pub returns : goal.returns
unfolding correction_line
returns c =
    let square = down (times (down (v c.before) 15 refl) (down (v c.before) 15 refl) refl) 7 refl in
    within (minus (v c.before) (down (times square (h1 c.before) refl) 4 refl) refl) 2147483647 refl refl
