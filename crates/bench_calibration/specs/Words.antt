-- A chip's words: `0 T1=.. T2=.. .. H6=..`, or the number that refuses the blocks.
use Rattle.std.specs.Prelude.{ℕ, List, [], ◌∷◌, ◌++◌, pos, Ok, Err}
use Rattle.paper.specs.Numbers.{done}
use Rattle.calibration.specs.declared.TemperatureWords.{TemperatureWords}
use Rattle.calibration.specs.declared.PressureWords.{PressureWords}
use Rattle.calibration.specs.declared.HumidityWords.{HumidityWords}
use Rattle.calibration.specs.declared.Words.{Words}
use Rattle.calibration.specs.Calibration.{Calibration}
use Rattle.bench_page.specs.Page.{letters}
use Rattle.bench_page.specs.Digits.{decimal}
use Rattle.bench_row.specs.Row.{filled_signed}

unfoldable pub temperature : TemperatureWords → List ℕ
temperature w = filled_signed (letters "# T1=# T2=# T3=#") (pos done ∷ pos w.t1 ∷ w.t2 ∷ w.t3 ∷ [])

unfoldable pub pressure : PressureWords → List ℕ
pressure w =
    filled_signed (letters " P1=# P2=# P3=# P4=# P5=# P6=# P7=# P8=# P9=#")
    (pos w.p1 ∷ w.p2 ∷ w.p3 ∷ w.p4 ∷ w.p5 ∷ w.p6 ∷ w.p7 ∷ w.p8 ∷ w.p9 ∷ [])

unfoldable pub humidity : HumidityWords → List ℕ
humidity w =
    filled_signed (letters " H1=# H2=# H3=# H4=# H5=# H6=#")
    (pos w.h1 ∷ w.h2 ∷ pos w.h3 ∷ w.h4 ∷ w.h5 ∷ w.h6 ∷ [])

unfoldable pub words : Words → List ℕ
words w = temperature w.temperature ++ (pressure w.pressure ++ humidity w.humidity)

unfoldable pub calibration : Calibration → List ℕ
calibration (Ok w) = words w
calibration (Err r) = decimal r.number
