-- `humidity::lines::bend` meets its contract: its calls are the line's steps.
use mir.Syntax.{w8}
use mir.Val.{SFits}
use mir.Facts.{to_z-of_z}
use Rattle.std.proofs.Common.{rules}
use Rattle.steps.specs.Step.{added, multiplied, shifted_right}
use Rattle.steps.specs.Work.{run}
use Rattle.formula_humidity.specs.Humidity.{bend_factor}
use Rattle.formula.proofs.Laws.{number-is}
use Rattle.formula_humidity.proofs.lines.bend.Goals as goal

pub returns : goal.returns
unfolding run bend_factor added multiplied shifted_right
returns c =
    let h6 : SFits w8 c.args.words.h6 = search rules in
    rw (
      c.shift_right.ensures,
      c.multiply-product.ensures,
      c.add.ensures,
      c.shift_right-right.ensures,
      c.multiply-2.ensures,
      c.shift_right-left.ensures,
      c.multiply.ensures,
      number-is c.number-h6.ensures,
      number-is c.number-h3.ensures,
      to_z-of_z h6,
      to_z-of_z c.ranges.v,
    )
