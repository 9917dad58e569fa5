-- `pressure::lines::offset` meets its contract: its calls are the lines' steps, each line's variable in its place.
use mathlib.Core.Path.{refl, ◌∙◌}
use mir.Syntax.{w16}
use mir.Val.{SFits}
use mir.Facts.{to_z-of_z}
use Rattle.std.proofs.Common.{rules}
use Rattle.steps.specs.declared.Signed.TheVariants.{Bits64}
use Rattle.steps.specs.Step.{on_value, on_values, added, multiplied, shifted_left}
use Rattle.steps.specs.Work.{run}
use Rattle.formula_pressure.specs.Pressure.{offset_lines}
use Rattle.formula.proofs.Laws.{number-is, in_place}
use Rattle.formula_pressure.proofs.lines.offset.Goals as goal

pub returns : goal.returns
unfolding run offset_lines on_value on_values added multiplied shifted_left
returns c =
    let p4 : SFits w16 c.args.words.p4 = search rules in
    let p5 : SFits w16 c.args.words.p5 = search rules in
    let p6 : SFits w16 c.args.words.p6 = search rules in
    rw (c.add-2.ensures, c.add.ensures)
    (in_place
    (λ a. added Bits64 (added Bits64 a c.shift_left-line.result) c.shift_left.result)
    (λ n. refl)
    c.multiply-square.result
    ∙ rw (
      c.shift_left.ensures,
      c.shift_left-line.ensures,
      c.multiply-2.ensures,
      c.multiply-square.ensures,
      c.multiply.ensures,
      number-is c.number-p6.ensures,
      number-is c.number-p5.ensures,
      number-is c.number-p4.ensures,
      to_z-of_z c.ranges.difference,
      to_z-of_z p4,
      to_z-of_z p5,
      to_z-of_z p6,
    ))
