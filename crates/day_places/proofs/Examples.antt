-- The worked day, computed.
use mathlib.Core.Path.{refl}
use Rattle.steps.specs.Step.{on_value, on_values}
use Rattle.steps.specs.Work.{run}
use Rattle.calibration.specs.Calibration.{calibrated}
use Rattle.formula_temperature.specs.Temperature as t
use Rattle.formula_pressure.specs.Pressure as p
use Rattle.compensation.specs.Compensation.{compensated_words}
use Rattle.day_row.specs.Row.{numbers_of}
use Rattle.day.specs.Day.{answer_from, rows_of, day_with, day}
use Rattle.day_places.specs.Examples.{Worked}

pub worked : Worked
unfolding day day_with rows_of answer_from numbers_of calibrated compensated_words run on_value on_values t.slope_line t.curve_line t.fine_lines t.degrees_line
    t.temperature_of p.difference_line p.offset_lines p.scale_lines p.divisor_lines p.quotient_lines p.curve_line p.slope_line p.last_line p.refined_lines p.pressure_lines
    p.pressure_formula p.pressure_of
worked = record { three = refl; none = refl; cut = refl; unequal = refl; wrong-block = refl }
