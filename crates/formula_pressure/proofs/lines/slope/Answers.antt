-- `pressure::lines::slope` meets its contract: its calls are the line's steps.
use mir.Syntax.{w16}
use mir.Val.{SFits}
use mir.Facts.{to_z-of_z}
use Rattle.std.proofs.Common.{rules}
use Rattle.steps.specs.Step.{multiplied, shifted_right}
use Rattle.steps.specs.Work.{run}
use Rattle.formula_pressure.specs.Pressure.{slope_line}
use Rattle.formula.proofs.Laws.{number-is}
use Rattle.formula_pressure.proofs.lines.slope.Goals as goal

pub returns : goal.returns
unfolding run slope_line multiplied shifted_right
returns c =
    let p8 : SFits w16 c.args.words.p8 = search rules in
    rw (
      c.shift_right.ensures,
      c.multiply.ensures,
      number-is c.number.ensures,
      to_z-of_z p8,
      to_z-of_z c.ranges.p,
    )
