-- cal: a chip's words. comp: `0 t=.. fine=.. p=.. h=..`, with `t!N`, `p!N`, `h!N` for a channel that has a number in its place, or the number that refuses it.
use Rattle.std.specs.Prelude.{ℕ, List, [], ◌∷◌, ◌++◌, Ok, Err}
use Rattle.paper.specs.Numbers.{done}
use Rattle.calibration.specs.Calibration.{calibrated}
use Rattle.formula.specs.declared.Temperature.{Temperature}
use Rattle.formula.specs.Answers.{TemperatureAnswer, ChannelAnswer}
use Rattle.compensation.specs.declared.Reading.{Reading}
use Rattle.compensation.specs.Compensation.{Answer}
use Rattle.bench_page.specs.Page.{letters}
use Rattle.bench_page.specs.Digits.{decimal}
use Rattle.bench_row.specs.Row.{filled, filled_signed}
use Rattle.bench_calibration.specs.Words.{calibration}

abbrev pub cal : List ℕ → List ℕ → List ℕ
cal first second = calibration (calibrated first second)

-- a number after its name and a mark: `=` for a value, `!` for a number in its place
abbrev pub one : List ℕ → List ℕ → ℕ → List ℕ
one name mark n = filled (letters " " ++ (name ++ (mark ++ letters "#"))) (n ∷ [])

-- the fine temperature goes with the temperature
abbrev pub known : Temperature → List ℕ
known t = filled_signed (letters " t=# fine=#") (t.value ∷ t.fine ∷ [])

abbrev pub temperature : TemperatureAnswer → List ℕ
temperature (Ok t) = known t
temperature (Err m) = one (letters "t") (letters "!") m.number

abbrev pub channel : List ℕ → ChannelAnswer → List ℕ
channel name (Ok value) = one name (letters "=") value
channel name (Err m) = one name (letters "!") m.number

-- the three channels, each after a space
unfoldable pub channels : Reading → List ℕ
channels r = temperature r.temperature ++ (channel (letters "p") r.pressure ++ channel (letters "h") r.humidity)

-- after the number that says there is a reading
unfoldable pub reading : Reading → List ℕ
reading r = decimal done ++ channels r

abbrev pub answered : Answer → List ℕ
answered (Ok r) = reading r
answered (Err r) = decimal r.number
