-- `pressure::lines::curve` meets its contract: its calls are the line's steps.
use mir.Syntax.{w16}
use mir.Val.{SFits}
use mir.Facts.{to_z-of_z}
use Rattle.std.proofs.Common.{rules}
use Rattle.steps.specs.Step.{multiplied, shifted_right}
use Rattle.steps.specs.Work.{run}
use Rattle.formula_pressure.specs.Pressure.{curve_line}
use Rattle.formula.proofs.Laws.{number-is}
use Rattle.formula_pressure.proofs.lines.curve.Goals as goal

pub returns : goal.returns
unfolding run curve_line multiplied shifted_right
returns c =
    let p9 : SFits w16 c.args.words.p9 = search rules in
    rw (
      c.shift_right.ensures,
      c.multiply-2.ensures,
      c.multiply.ensures,
      c.shift_right-coarse.ensures,
      number-is c.number-p9.ensures,
      to_z-of_z p9,
      to_z-of_z c.ranges.p,
    )
