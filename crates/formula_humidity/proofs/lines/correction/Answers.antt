-- `humidity::lines::correction` meets its contract: its calls are the line's steps.
use mir.Facts.{to_z-of_z}
use Rattle.steps.specs.Step.{subtracted, multiplied, shifted_right}
use Rattle.steps.specs.Work.{run}
use Rattle.formula_humidity.specs.Humidity.{correction_line}
use Rattle.formula.proofs.Laws.{number-is}
use Rattle.formula_humidity.proofs.lines.correction.Goals as goal

pub returns : goal.returns
unfolding run correction_line subtracted multiplied shifted_right
returns c =
    rw (
      c.subtract.ensures,
      c.shift_right.ensures,
      c.multiply-2.ensures,
      c.shift_right-square.ensures,
      c.multiply.ensures,
      c.shift_right-coarse.ensures,
      number-is c.number-h1.ensures,
      to_z-of_z c.ranges.v,
    )
