-- A whole reading by the plain roads: when they are tried, and what they give where all three are taken.
use Rattle.std.specs.Prelude.{ℕ, Bool, cond, ◌&&◌, not, List, eqb, Option, Some, None, Ok}
use Rattle.paper.specs.Registers as reg
use Rattle.calibration.specs.declared.Words.{Words}
use Rattle.data.specs.declared.Counts.{Counts}
use Rattle.data.specs.Counts.{counts_of}
use Rattle.formula.specs.declared.Temperature.{Temperature}
use Rattle.formula.specs.Plain.{temperature_plainly, channel_plainly}
use Rattle.formula_temperature.specs.Temperature.{temperature_of}
use Rattle.formula_temperature.specs.Plain.{is_near}
use Rattle.formula_pressure.specs.Pressure.{pressure_of}
use Rattle.formula_pressure.specs.Plain as pressure
use Rattle.formula_humidity.specs.Humidity.{humidity_of}
use Rattle.formula_humidity.specs.Plain as humidity
use Rattle.compensation.specs.Compensation.{Answer}
use Rattle.plain_reading.specs.declared.PlainReading.{PlainReading}

-- codes of 0 to 7, none of which skips its channel
abbrev pub are_enabled : ℕ → ℕ → ℕ → Bool
are_enabled t p h = reg.are_codes t p h && (not (eqb t 0) && (not (eqb p 0) && not (eqb h 0)))

-- ---- one road after the other; the first that is not taken ends it

abbrev pub with_humidity : Temperature → ℕ → Option ℕ → Option PlainReading
with_humidity t p (Some h) = Some (record { temperature = t; pressure = p; humidity = h })
with_humidity t p None = None

abbrev pub with_pressure : Words → Counts → Temperature → Option ℕ → Option PlainReading
with_pressure words counts t (Some p) =
    let count = counts.humidity in
    with_humidity t p (channel_plainly (humidity.is_taken words.humidity t.fine count) (humidity_of words.humidity t.fine count))
with_pressure words counts t None = None

abbrev pub with_temperature : Words → Counts → Option Temperature → Option PlainReading
with_temperature words counts (Some t) =
    let count = counts.pressure in
    with_pressure words counts t (channel_plainly (pressure.is_taken words.pressure t.fine count) (pressure_of words.pressure t.fine count))
with_temperature words counts None = None

unfoldable pub counts_plainly : Words → Counts → Option PlainReading
counts_plainly words counts =
    let count = counts.temperature in
    with_temperature words counts (temperature_plainly (is_near words.temperature.t1 count) (temperature_of words.temperature count))

unfoldable pub read_plainly : Words → List ℕ → ℕ → ℕ → ℕ → Option PlainReading
read_plainly words bytes t p h = cond (are_enabled t p h) (counts_plainly words (counts_of bytes)) None

-- ---- as an answer

abbrev pub answer_of : PlainReading → Answer
answer_of r = Ok (record { temperature = Ok r.temperature; pressure = Ok r.pressure; humidity = Ok r.humidity })
