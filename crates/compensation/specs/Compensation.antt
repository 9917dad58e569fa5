-- Compensation: both blocks, the eight bytes 0xF7 to 0xFE, and three oversampling codes. Codes, channels and counts come as temperature, pressure, humidity.
use Rattle.std.specs.Prelude.{ℕ, ◌≡◌, cond, List, [], ◌∷◌, eqb, length, ℤ, Result, Ok, Err}
use Rattle.paper.specs.Numbers as no
use Rattle.paper.specs.Registers as reg
use Rattle.paper.specs.Answers.{Answered, SignedAnswer, given, refused, refusal, missing}
use Rattle.paper.specs.declared.Refusal.{Refusal}
use Rattle.calibration.specs.declared.TemperatureWords.{TemperatureWords}
use Rattle.calibration.specs.declared.PressureWords.{PressureWords}
use Rattle.calibration.specs.declared.HumidityWords.{HumidityWords}
use Rattle.calibration.specs.declared.Words.{Words}
use Rattle.calibration.specs.Calibration.{Calibration, calibrated}
use Rattle.formula.specs.Answers.{TemperatureAnswer, ChannelAnswer, temperature_answer, channel_answer}
use Rattle.formula_temperature.specs.Temperature.{temperature_of}
use Rattle.formula_pressure.specs.Pressure.{pressure_of}
use Rattle.formula_humidity.specs.Humidity.{humidity_of}
use Rattle.data.specs.declared.Counts.{Counts}
use Rattle.data.specs.Counts.{counts_of}
use Rattle.compensation.specs.declared.Reading.{Reading}

-- ---- the channels: code 0 means skipped

abbrev pub temperature_channel : ℕ → TemperatureWords → ℕ → TemperatureAnswer
temperature_channel code words count = cond (eqb code 0) (Err (missing no.skipped)) (temperature_of words count)

-- pressure and humidity want the fine temperature
abbrev pub warmed : TemperatureAnswer → (ℤ → ChannelAnswer) → ChannelAnswer
warmed (Err m) of = Err (missing no.no_temperature)
warmed (Ok t) of = of t.fine

abbrev pub channel : ℕ → TemperatureAnswer → (ℤ → ChannelAnswer) → ChannelAnswer
channel code t of = cond (eqb code 0) (Err (missing no.skipped)) (warmed t of)

-- the answer r is the channel's, whose formula's answers `post` tells apart
abbrev pub IsChannelBy : (ℤ → ChannelAnswer → Type 0) → ℕ → TemperatureAnswer → ChannelAnswer → Type 0
IsChannelBy post code t r =
    (of : ℤ → ChannelAnswer) → ((fine : ℤ) (answer : ChannelAnswer) → post fine answer → answer ≡ of fine) →
    r ≡ channel code t of

abbrev pub pressure_at : TemperatureAnswer → PressureWords → ℕ → ChannelAnswer
pressure_at t words count = warmed t (λ fine. pressure_of words fine count)

abbrev pub pressure_channel : ℕ → TemperatureAnswer → PressureWords → ℕ → ChannelAnswer
pressure_channel code t words count = channel code t (λ fine. pressure_of words fine count)

abbrev pub humidity_at : TemperatureAnswer → HumidityWords → ℕ → ChannelAnswer
humidity_at t words count = warmed t (λ fine. humidity_of words fine count)

abbrev pub humidity_channel : ℕ → TemperatureAnswer → HumidityWords → ℕ → ChannelAnswer
humidity_channel code t words count = channel code t (λ fine. humidity_of words fine count)

abbrev pub reading : Words → Counts → ℕ → ℕ → ℕ → Reading
reading words counts t p h =
    let temperature = temperature_channel t words.temperature counts.temperature in
    record {
      temperature = temperature;
      pressure = pressure_channel p temperature words.pressure counts.pressure;
      humidity = humidity_channel h temperature words.humidity counts.humidity;
    }

-- ---- length is checked first (2), then codes (7)

-- a reading, or why it is refused whole
abbrev pub Answer : Type 0
Answer = Result Reading Refusal

unfoldable pub compensated_words : Words → List ℕ → ℕ → ℕ → ℕ → Answer
compensated_words words bytes t p h =
    cond (reg.are_codes t p h)
    (Ok (reading words (counts_of bytes) t p h))
    (Err (refusal no.out_of_range))

abbrev pub compensated_with : Calibration → List ℕ → ℕ → ℕ → ℕ → Answer
compensated_with (Err r) bytes t p h = Err r
compensated_with (Ok words) bytes t p h =
    cond (eqb (length bytes) reg.data_length)
    (compensated_words words bytes t p h)
    (Err (refusal no.wrong_length))

unfoldable pub compensated : List ℕ → List ℕ → List ℕ → ℕ → ℕ → ℕ → Answer
compensated one two bytes t p h = compensated_with (calibrated one two) bytes t p h

-- ---- the paper's number for each case: with 0 come the numbers and values of temperature, pressure, humidity

unfoldable pub reading_answer : Answer → Answered SignedAnswer
reading_answer (Ok r) =
    given (temperature_answer r.temperature ∷ channel_answer r.pressure ∷ channel_answer r.humidity ∷ [])
reading_answer (Err r) = refused r.number
