-- The table computes to what the paper prints.
use Rattle.steps.specs.Step.{on_value, on_values}
use Rattle.steps.specs.Work.{run}
use Rattle.calibration.specs.Calibration.{calibrated}
use Rattle.formula.specs.Answers.{temperature_answer, channel_answer}
use Rattle.formula_temperature.specs.Temperature as t
use Rattle.formula_pressure.specs.Pressure as p
use Rattle.formula_humidity.specs.Humidity as h
use Rattle.compensation.specs.Compensation.{compensated_words, compensated, reading_answer}
use Rattle.waiting.specs.Waiting as w
use Rattle.waiting.specs.Polling as poll
use Rattle.bus.specs.Lent.{handed}
use Rattle.bus.specs.Pairs.{every, with_registers}
use Rattle.bus.specs.Writing.{pairs_number, message, encode_number, encoded_write}
use Rattle.machine.specs.Control.{effect, held_effect}
use Rattle.machine.specs.Data.{stored}
use Rattle.machine.specs.Events.{showing, keeping, delivering, waiting_shown}
use Rattle.sheet.specs.Sheet.{sheet, unbracketed_line, SheetHolds}
use Rattle.sheet.proofs.Agree.{each}

pub sheet-holds : SheetHolds
unfolding sheet run on_value on_values t.slope_line t.curve_line t.fine_lines t.degrees_line t.temperature_of
    p.difference_line p.offset_lines p.scale_lines p.divisor_lines p.quotient_lines p.curve_line p.slope_line p.last_line p.refined_lines p.pressure_lines p.pressure_formula p.pressure_of
    unbracketed_line h.difference_line h.level_factor h.bend_factor h.gain_factor h.product_line h.correction_line h.humidity_lines h.last_line h.humidity_formula h.humidity_of
    w.samples w.channel_part w.microseconds w.waited poll.first_ready poll.polled
    handed every with_registers pairs_number message encode_number encoded_write
    calibrated temperature_answer channel_answer compensated_words compensated reading_answer
    effect held_effect stored showing keeping delivering waiting_shown
sheet-holds = each sheet tt
