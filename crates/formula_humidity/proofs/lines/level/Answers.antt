-- `humidity::lines::level` meets its contract: its calls are the line's steps.
use mir.Syntax.{w16}
use mir.Val.{SFits}
use mir.Facts.{to_z-of_z}
use Rattle.std.proofs.Common.{rules}
use Rattle.steps.specs.Step.{added, subtracted, multiplied, shifted_left, shifted_right}
use Rattle.steps.specs.Work.{run}
use Rattle.formula_humidity.specs.Humidity.{level_factor}
use Rattle.formula.proofs.Laws.{number-is}
use Rattle.formula_humidity.proofs.lines.level.Goals as goal

pub returns : goal.returns
unfolding run level_factor added subtracted multiplied shifted_left shifted_right
returns c =
    let h4 : SFits w16 c.args.words.h4 = search rules in
    let h5 : SFits w16 c.args.words.h5 = search rules in
    rw (
      c.shift_right.ensures,
      c.add.ensures,
      c.subtract-warm.ensures,
      c.multiply.ensures,
      c.subtract-above.ensures,
      c.shift_left-2.ensures,
      c.shift_left.ensures,
      number-is c.number-h5.ensures,
      number-is c.number-h4.ensures,
      number-is c.number-adc.ensures,
      to_z-of_z h4,
      to_z-of_z h5,
      to_z-of_z c.ranges.v,
    )
