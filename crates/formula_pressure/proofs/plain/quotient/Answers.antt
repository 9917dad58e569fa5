-- `pressure::plain::quotient` meets its contract: each step stays within its width, by the bounds of its operands.
use native.Mathlib.Omega.{arith}
use mathlib.Core.Path.{refl}
use Rattle.steps.specs.declared.Signed.TheVariants.{Bits64}
use Rattle.steps.specs.Work.{given}
use Rattle.formula.specs.Plain.{Gives}
use Rattle.formula_pressure.specs.Plain.{division_line}
use Rattle.formula.proofs.Bounds.{within, plainly, literal, times, over}
use Rattle.formula_pressure.proofs.plain.quotient.Goals as goal
use Rattle.formula_pressure.proofs.plain.quotient.Goals.{Start}

above : (s : Start) → Gives Bits64 2251799813685248 (given s.args.dividend) s.args.dividend
above s = plainly s.requires.dividend refl

below : (s : Start) → Gives Bits64 9223372036854775807 (given s.args.divisor) s.args.divisor
below s = plainly s.requires.most refl

pub returns : goal.returns
unfolding division_line
returns c = within (over (times (above c) (literal 3125 refl) refl) (below c) 134217728 (omega arith) c.requires.divisor refl) 68719476736 refl refl
