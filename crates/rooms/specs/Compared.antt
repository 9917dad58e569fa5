-- Two rooms compared: agree where both have a value and the whole numbers differ by at most the tolerance, differ where both have one and they
-- don't, unknown in all other cases.
use Rattle.std.specs.Prelude.{ℕ, cond, leb, ℤ, pos, nat_abs, ◌-ℤ◌, Result, Ok, Err}
use Rattle.paper.specs.declared.Missing.{Missing}
use Rattle.formula.specs.Answers.{TemperatureAnswer, ChannelAnswer}
use Rattle.compensation.specs.declared.Reading.{Reading}
use Rattle.compensation.specs.Compensation.{Answer}
use Rattle.rooms.specs.declared.Verdict.{Verdict}
use Rattle.rooms.specs.declared.Verdict.TheVariants.{Agree, Differ, Unknown}
use Rattle.rooms.specs.declared.Verdicts.{Verdicts}
use Rattle.rooms.specs.declared.Tolerances.{Tolerances}
use Rattle.rooms.specs.Points.{channels_of}

-- a channel's whole number, or what stands in its place
abbrev pub Whole : Type 0
Whole = Result ℤ Missing

-- ---- whole numbers: the fine temperature is not compared

abbrev pub temperature_whole : TemperatureAnswer → Whole
temperature_whole (Ok t) = Ok t.value
temperature_whole (Err m) = Err m

abbrev pub channel_whole : ChannelAnswer → Whole
channel_whole (Ok value) = Ok (pos value)
channel_whole (Err m) = Err m

-- ---- two channels

abbrev pub judged : ℕ → ℕ → Verdict
judged distance tolerance = cond (leb distance tolerance) Agree Differ

abbrev pub compared_with : ℤ → Whole → ℕ → Verdict
compared_with a (Ok b) tolerance = judged (nat_abs (a -ℤ b)) tolerance
compared_with a (Err m) tolerance = Unknown

abbrev pub compared_channels : Whole → Whole → ℕ → Verdict
compared_channels (Ok a) two tolerance = compared_with a two tolerance
compared_channels (Err m) two tolerance = Unknown

-- ---- two rooms

abbrev pub compared_readings : Reading → Reading → Tolerances → Verdicts
compared_readings one two tolerances = record {
  temperature = compared_channels (temperature_whole one.temperature) (temperature_whole two.temperature) tolerances.temperature;
  pressure = compared_channels (channel_whole one.pressure) (channel_whole two.pressure) tolerances.pressure;
  humidity = compared_channels (channel_whole one.humidity) (channel_whole two.humidity) tolerances.humidity;
}

abbrev pub compared_rooms : Answer → Answer → Tolerances → Verdicts
compared_rooms one two tolerances = compared_readings (channels_of one) (channels_of two) tolerances
