-- `pressure::lines::last` meets its contract: its calls are the line's steps.
use mir.Syntax.{w16}
use mir.Val.{SFits}
use mir.Facts.{to_z-of_z}
use Rattle.std.proofs.Common.{rules}
use Rattle.steps.specs.Step.{added, shifted_left, shifted_right}
use Rattle.steps.specs.Work.{run}
use Rattle.formula_pressure.specs.Pressure.{last_line}
use Rattle.formula.proofs.Laws.{number-is}
use Rattle.formula_pressure.proofs.lines.last.Goals as goal

pub returns : goal.returns
unfolding run last_line added shifted_left shifted_right
returns c =
    let p7 : SFits w16 c.args.words.p7 = search rules in
    rw (
      c.add-2.ensures,
      c.shift_left.ensures,
      c.shift_right.ensures,
      c.add-sum.ensures,
      c.add.ensures,
      number-is c.number-p7.ensures,
      to_z-of_z p7,
      to_z-of_z c.ranges.p,
      to_z-of_z c.ranges.var1,
      to_z-of_z c.ranges.var2,
    )
