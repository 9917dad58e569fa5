-- `pressure::lines::quotient` meets its contract: its calls are the lines' steps, the first line's variable in its place.
use mathlib.Core.Path.{refl, ◌∙◌}
use lib.IntN.{pos}
use mir.Facts.{to_z-of_z}
use Rattle.steps.specs.declared.Signed.TheVariants.{Bits64}
use Rattle.std.specs.Prelude.{Ok}
use Rattle.steps.specs.Step.{on_value, on_values, nonzero, subtracted, multiplied, divided, shifted_left}
use Rattle.steps.specs.Work.{run}
use Rattle.formula_pressure.specs.Pressure.{quotient_lines}
use Rattle.formula.proofs.Laws.{number-is, in_place}
use Rattle.formula_pressure.proofs.lines.quotient.Goals as goal

pub returns : goal.returns
unfolding run quotient_lines on_value on_values nonzero subtracted multiplied divided shifted_left
returns c =
    rw (
      c.divide.ensures,
      c.multiply.ensures,
      c.subtract-above.ensures,
      c.shift_left.ensures,
      to_z-of_z c.ranges.var1,
      to_z-of_z c.ranges.var2,
    )
    (in_place
    (λ p. divided Bits64 (multiplied Bits64 (subtracted Bits64 (shifted_left Bits64 p 31) (Ok c.args.var2)) (Ok (pos 3125))) (Ok c.args.var1))
    (λ n. refl)
    c.subtract-p.result
    ∙ rw (c.subtract-p.ensures, number-is c.number.ensures))
