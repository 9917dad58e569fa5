-- `temperature::lines::curve` meets its contract: its calls are the line's steps.
use mir.Syntax.{w16}
use mir.Val.{SFits}
use mir.Facts.{to_z-of_z}
use Rattle.std.proofs.Common.{rules}
use Rattle.steps.specs.Step.{subtracted, multiplied, shifted_right}
use Rattle.steps.specs.Work.{run}
use Rattle.formula_temperature.specs.Temperature.{curve_line}
use Rattle.formula.proofs.Laws.{number-is}
use Rattle.formula_temperature.proofs.lines.curve.Goals as goal

pub returns : goal.returns
unfolding run curve_line subtracted multiplied shifted_right
returns c =
    let t3 : SFits w16 c.args.words.t3 = search rules in
    rw (
      c.shift_right-2.ensures,
      c.multiply-2.ensures,
      c.shift_right-square.ensures,
      c.multiply.ensures,
      c.subtract-difference.ensures,
      c.shift_right.ensures,
      number-is c.number-t3.ensures,
      number-is c.number-t1.ensures,
      number-is c.number-adc.ensures,
      to_z-of_z t3,
    )
