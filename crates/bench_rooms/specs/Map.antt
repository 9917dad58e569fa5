-- point: `t=BITS p=BITS h=BITS known=1,1,0`. cells: `t=BITS p=BITS h!10`, a missing one with its number. rooms: `t=agree p=differ h=unknown`.
use Rattle.std.specs.Prelude.{ℕ, ◌/◌, List, [], ◌∷◌, ◌++◌, Float}
use Rattle.std.specs.Float.{binary64}
use Rattle.std.specs.Float.Ieee.{to_bits}
use Rattle.bench_page.specs.Page.{letters}
use Rattle.bench_row.specs.Row.{filled}
use Rattle.rooms.specs.declared.Cell.{Cell}
use Rattle.rooms.specs.declared.Cell.TheVariants.{Temperature, Pressure, Humidity, Missing}
use Rattle.rooms.specs.declared.Cells.{Cells}
use Rattle.rooms.specs.declared.MapPoint.{MapPoint}
use Rattle.rooms.specs.declared.Verdict.{Verdict}
use Rattle.rooms.specs.declared.Verdict.TheVariants.{Agree, Differ, Unknown}
use Rattle.rooms.specs.declared.Verdicts.{Verdicts}
use Rattle.rooms.specs.Points.{flag}

-- ---- the letters of the channels, and three texts with single spaces between them

abbrev pub t : ℕ
t = 116

abbrev pub p : ℕ
p = 112

abbrev pub h : ℕ
h = 104

abbrev pub spaced : List ℕ → List ℕ → List ℕ → List ℕ
spaced a b c = a ++ (letters " " ++ (b ++ (letters " " ++ c)))

-- ---- doubles: the 64 bits, a byte for each '@', the sign's first

abbrev pub bits : ℕ → ℕ → List ℕ
bits letter n =
    filled (letter ∷ letters "=@@@@@@@@")
    (n / 0x100000000000000 ∷ n / 0x1000000000000 ∷ n / 0x10000000000 ∷ n / 0x100000000 ∷ n / 0x1000000 ∷ n / 0x10000 ∷ n / 0x100 ∷ n ∷ [])

unfoldable pub double : ℕ → Float → List ℕ
double letter x = bits letter (to_bits binary64 x)

-- ---- points: 1 for a channel that has a value, 0 for one that is missing

abbrev pub known : MapPoint → List ℕ
known m = filled (letters " known=#,#,#") (flag m.temperature_known ∷ flag m.pressure_known ∷ flag m.humidity_known ∷ [])

unfoldable pub point : MapPoint → List ℕ
point m = spaced (double t m.temperature) (double p m.pressure) (double h m.humidity ++ known m)

-- ---- cells

unfoldable pub cell : ℕ → Cell → List ℕ
cell letter (Temperature x) = double letter x
cell letter (Pressure x) = double letter x
cell letter (Humidity x) = double letter x
cell letter (Missing m) = filled (letter ∷ letters "!#") (m.number ∷ [])

unfoldable pub cells : Cells → List ℕ
cells c = spaced (cell t c.temperature) (cell p c.pressure) (cell h c.humidity)

-- ---- rooms

abbrev pub word : Verdict → List ℕ
word Agree = letters "=agree"
word Differ = letters "=differ"
word Unknown = letters "=unknown"

unfoldable pub verdict : ℕ → Verdict → List ℕ
verdict letter v = letter ∷ word v

unfoldable pub verdicts : Verdicts → List ℕ
verdicts v = spaced (verdict t v.temperature) (verdict p v.pressure) (verdict h v.humidity)
