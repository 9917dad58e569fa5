-- `temperature::plain::degrees` meets its contract: each step stays within its width, by the bounds of its operands.
use mathlib.Core.Path.{refl}
use Rattle.steps.specs.declared.Signed.TheVariants.{Bits32}
use Rattle.steps.specs.Work.{given}
use Rattle.formula_temperature.specs.Temperature.{degrees_line}
use Rattle.formula.specs.Plain.{Gives}
use Rattle.formula.proofs.Bounds.{within, plainly, literal, times, plus, down}
use Rattle.formula_temperature.proofs.plain.degrees.Goals as goal
use Rattle.formula_temperature.proofs.plain.degrees.Goals.{Start}

fine : (c : Start) → Gives Bits32 1179648 (given c.args.fine) c.args.fine
fine c = plainly c.requires refl

pub returns : goal.returns
unfolding degrees_line
returns c = within (down (plus (times (fine c) (literal 5 refl) refl) (literal 128 refl) refl) 8 refl) 23041 refl refl
