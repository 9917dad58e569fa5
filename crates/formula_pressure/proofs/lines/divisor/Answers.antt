-- `pressure::lines::divisor` meets its contract: its calls are the lines' steps, the first line's variable in its place.
use mathlib.Core.Path.{refl, ap, ◌∙◌}
use lib.IntN.{pos}
use mir.Syntax.{w16}
use mir.Val.{SFits}
use mir.Facts.{to_z-of_z}
use Rattle.std.proofs.Common.{rules}
use Rattle.steps.specs.declared.Signed.TheVariants.{Bits64}
use Rattle.std.specs.Prelude.{Ok}
use Rattle.steps.specs.Step.{on_value, on_values, nonzero, added, multiplied, shifted_left, shifted_right}
use Rattle.steps.specs.Work.{run}
use Rattle.formula_pressure.specs.Pressure.{scale_lines, divisor_lines}
use Rattle.formula.proofs.Laws.{number-is, in_place}
use Rattle.formula_pressure.proofs.lines.divisor.Goals as goal

pub returns : goal.returns
unfolding run scale_lines divisor_lines on_value on_values nonzero added multiplied shifted_left shifted_right
returns c =
    let p2 : SFits w16 c.args.words.p2 = search rules in
    let p3 : SFits w16 c.args.words.p3 = search rules in
    rw (
      c.refuse_zero.ensures,
      c.shift_right.ensures,
      c.multiply-4.ensures,
      c.add-sum.ensures,
      c.shift_left.ensures,
      number-is c.number-p1.ensures,
    )
    (ap nonzero
    (in_place
    (λ a. shifted_right Bits64 (multiplied Bits64 (added Bits64 (shifted_left Bits64 (Ok (pos 1)) 47) a) (Ok (pos c.args.words.p1))) 33)
    (λ n. refl)
    c.add.result)
    ∙ rw (
      c.add.ensures,
      c.shift_left-line.ensures,
      c.multiply-3.ensures,
      c.shift_right-square.ensures,
      c.multiply-2.ensures,
      c.multiply.ensures,
      number-is c.number-p3.ensures,
      number-is c.number-p2.ensures,
      to_z-of_z c.ranges.difference,
      to_z-of_z p2,
      to_z-of_z p3,
    ))
