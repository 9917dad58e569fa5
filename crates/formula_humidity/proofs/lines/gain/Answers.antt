-- `humidity::lines::gain` meets its contract: its calls are the line's steps.
use mir.Syntax.{w16}
use mir.Val.{SFits}
use mir.Facts.{to_z-of_z}
use Rattle.std.proofs.Common.{rules}
use Rattle.steps.specs.Step.{added, multiplied, shifted_right}
use Rattle.steps.specs.Work.{run}
use Rattle.formula_humidity.specs.Humidity.{gain_factor}
use Rattle.formula.proofs.Laws.{number-is}
use Rattle.formula_humidity.proofs.lines.gain.Goals as goal

pub returns : goal.returns
unfolding run gain_factor added multiplied shifted_right
returns c =
    let h2 : SFits w16 c.args.words.h2 = search rules in
    rw (
      c.shift_right.ensures,
      c.add.ensures,
      c.multiply.ensures,
      c.add-sum.ensures,
      c.bend.ensures,
      number-is c.number-h2.ensures,
      to_z-of_z h2,
      to_z-of_z c.ranges.v,
    )
