-- Cells and map points: an answer's three channels as doubles, in hundredths of a degree, Pa and %RH.
use Rattle.std.specs.Prelude.{ℕ, Bool, true, false, [], ◌∷◌, ℤ, pos, Float, Ok, Err}
use Rattle.std.specs.Float.{fin, binary64}
use Rattle.std.specs.Float.Ieee.{div, of_int}
use Rattle.paper.specs.Answers.{Answered, given, refused, missing}
use Rattle.formula.specs.Answers.{TemperatureAnswer, ChannelAnswer}
use Rattle.compensation.specs.declared.Reading.{Reading}
use Rattle.compensation.specs.Compensation.{Answer}
use Rattle.rooms.specs.declared.Cell.{Cell}
use Rattle.rooms.specs.declared.Cell.TheVariants.{Temperature, Pressure, Humidity, Missing}
use Rattle.rooms.specs.declared.Cells.{Cells}
use Rattle.rooms.specs.declared.MapPoint.{MapPoint}

-- ---- the channels of an answer: one that is refused whole is missing in all three, with its number

abbrev pub missing_with : ℕ → Reading
missing_with number = record {
  temperature = Err (missing number);
  pressure = Err (missing number);
  humidity = Err (missing number);
}

abbrev pub channels_of : Answer → Reading
channels_of (Ok reading) = reading
channels_of (Err why) = missing_with why.number

-- ---- doubles: `fin false m (pos e)` is m * 2 ^ e, so that the divisors are 256.0 and 1024.0; `div` and `of_int` round as IEEE 754 says

abbrev pub hundredths : ℤ → Float
hundredths value = of_int binary64 value

-- a whole number divided by 2 ^ e
unfoldable pub over : ℕ → ℕ → Float
over e value = div binary64 (of_int binary64 (pos value)) (fin false 1 (pos e))

abbrev pub pascals : ℕ → Float
pascals value = over 8 value

abbrev pub percent : ℕ → Float
percent value = over 10 value

-- ---- cells

abbrev pub temperature_cell : TemperatureAnswer → Cell
temperature_cell (Ok t) = Temperature (hundredths t.value)
temperature_cell (Err m) = Missing m

abbrev pub pressure_cell : ChannelAnswer → Cell
pressure_cell (Ok value) = Pressure (pascals value)
pressure_cell (Err m) = Missing m

abbrev pub humidity_cell : ChannelAnswer → Cell
humidity_cell (Ok value) = Humidity (percent value)
humidity_cell (Err m) = Missing m

abbrev pub reading_cells : Reading → Cells
reading_cells r = record {
  temperature = temperature_cell r.temperature;
  pressure = pressure_cell r.pressure;
  humidity = humidity_cell r.humidity;
}

abbrev pub cells_of : Answer → Cells
cells_of answer = reading_cells (channels_of answer)

-- the paper's number and value for each case of the enum
unfoldable pub cell_answer : Cell → Answered Float
cell_answer (Temperature value) = given (value ∷ [])
cell_answer (Pressure value) = given (value ∷ [])
cell_answer (Humidity value) = given (value ∷ [])
cell_answer (Missing m) = refused m.number

-- ---- map points: a missing channel's double is positive zero, and its flag says missing

abbrev pub double : Cell → Float
double (Temperature value) = value
double (Pressure value) = value
double (Humidity value) = value
double (Missing m) = fin false 0 (pos 0)

abbrev pub is_known : Cell → Bool
is_known (Temperature value) = true
is_known (Pressure value) = true
is_known (Humidity value) = true
is_known (Missing m) = false

-- a flag as a number
abbrev pub flag : Bool → ℕ
flag true = 1
flag false = 0

abbrev pub point_of : Cells → MapPoint
point_of c = record {
  temperature = double c.temperature;
  pressure = double c.pressure;
  humidity = double c.humidity;
  temperature_known = is_known c.temperature;
  pressure_known = is_known c.pressure;
  humidity_known = is_known c.humidity;
}
