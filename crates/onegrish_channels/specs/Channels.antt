-- A reading in lent places: the paper's number, and what the places hold then. A refusal leaves each as it was.
use Rattle.std.specs.Prelude.{ℕ, cond, List, leb, length, set, ℤ, pos, Ok, Err}
use Rattle.paper.specs.Numbers as no
use Rattle.formula.specs.Answers.{TemperatureAnswer, ChannelAnswer, temperature_number, channel_number}
use Rattle.compensation.specs.declared.Reading.{Reading}
use Rattle.compensation.specs.Compensation.{Answer}

-- a channel that has no value leaves its places as they were
abbrev pub with_temperature : TemperatureAnswer → List ℤ → List ℤ
with_temperature (Ok t) lent = set (set lent 0 t.value) 1 t.fine
with_temperature (Err m) lent = lent

abbrev pub with_channel : ChannelAnswer → ℕ → List ℤ → List ℤ
with_channel (Ok value) place lent = set lent place (pos value)
with_channel (Err m) place lent = lent

abbrev pub temperature_into : TemperatureAnswer → List ℤ → ℕ × List ℤ
temperature_into a lent = (temperature_number a, with_temperature a lent)

abbrev pub channel_into : ChannelAnswer → ℕ → List ℤ → ℕ × List ℤ
channel_into a place lent = (channel_number a, with_channel a place lent)

-- the three numbers, and the four values: the temperature, the fine temperature, the pressure, the humidity
abbrev pub with_numbers : Reading → List ℕ → List ℕ
with_numbers r lent =
    set (set (set lent 0 (temperature_number r.temperature)) 1 (channel_number r.pressure)) 2 (channel_number r.humidity)

abbrev pub with_values : Reading → List ℤ → List ℤ
with_values r lent = with_channel r.humidity 3 (with_channel r.pressure 2 (with_temperature r.temperature lent))

abbrev pub channels_into : Reading → List ℕ → List ℤ → List ℕ × List ℤ
channels_into r numbers values = (with_numbers r numbers, with_values r values)

-- 9 for fewer places than three and four
abbrev pub reading_into : Answer → List ℕ → List ℤ → ℕ × List ℕ × List ℤ
reading_into (Err why) numbers values = (why.number, numbers, values)
reading_into (Ok r) numbers values =
    cond (leb 3 (length numbers))
    (cond (leb 4 (length values))
    (no.done, with_numbers r numbers, with_values r values)
    (no.buffer_too_short, numbers, values))
    (no.buffer_too_short, numbers, values)
