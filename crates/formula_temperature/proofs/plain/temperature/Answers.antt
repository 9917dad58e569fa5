-- `temperature::plain::temperature` meets its contract: both lines are the formula's, and their bounds are within 32 bits.
use mir.Facts.{to_z-of_z}
use Rattle.steps.specs.declared.Signed.TheVariants.{Bits32}
use Rattle.formula_temperature.specs.Temperature.{fine_lines, degrees_line, temperature_of}
use Rattle.formula.specs.Plain.{Gives}
use Rattle.formula.proofs.Bounds.{back, fit32}
use Rattle.formula_temperature.proofs.plain.temperature.Goals as goal
use Rattle.formula_temperature.proofs.plain.temperature.Goals.{After-degrees-value, After-fine-fine}

fine-is : (c : After-fine-fine) → Gives Bits32 1179648 (fine_lines c.args.words c.args.count) c.fine-fine.result
fine-is c = c.fine-fine.ensures

degrees-is : (c : After-degrees-value) → Gives Bits32 23041 (degrees_line c.fine-fine.result) c.degrees-value.result
degrees-is c = rw (back (fine-is c.before)) at c.degrees-value.ensures

pub returns : goal.returns
unfolding temperature_of
returns c =
    let f = fine-is c.before in
    let v = degrees-is c in
    rw (back v, back f, to_z-of_z (fit32 v), to_z-of_z (fit32 f), f.is, v.is)
