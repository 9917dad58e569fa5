-- The chip's words as 18 numbers of 16 bits with a sign, T1 to T3, P1 to P9, H1 to H6: what a lent slice holds once they are written. T1 and P1 have no sign:
-- from 0x8000 on they stand there as themselves less 0x10000. 9 for fewer than 18 places.
use Rattle.std.specs.Prelude.{ℕ, ◌+◌, cond, List, [], ◌∷◌, leb, length, set, ℤ, pos, Ok, Err}
use Rattle.paper.specs.Numbers as no
use Rattle.calibration.specs.declared.TemperatureWords.{TemperatureWords}
use Rattle.calibration.specs.declared.PressureWords.{PressureWords}
use Rattle.calibration.specs.declared.HumidityWords.{HumidityWords}
use Rattle.calibration.specs.declared.Words.{Words}
use Rattle.calibration.specs.Calibration.{Calibration, signed}

-- the list with xs in it from place i on
abbrev pub laid : {A : Type 0} → ℕ → List A → List A → List A
laid i [] lent = lent
laid i (x ∷ xs) lent = laid (i + 1) xs (set lent i x)

abbrev pub temperature_list : TemperatureWords → List ℤ
temperature_list t = signed 0x8000 t.t1 ∷ t.t2 ∷ t.t3 ∷ []

abbrev pub pressure_list : PressureWords → List ℤ
pressure_list p = signed 0x8000 p.p1 ∷ p.p2 ∷ p.p3 ∷ p.p4 ∷ p.p5 ∷ p.p6 ∷ p.p7 ∷ p.p8 ∷ p.p9 ∷ []

abbrev pub humidity_list : HumidityWords → List ℤ
humidity_list h = pos h.h1 ∷ h.h2 ∷ pos h.h3 ∷ h.h4 ∷ h.h5 ∷ h.h6 ∷ []

abbrev pub with_words : Words → List ℤ → List ℤ
with_words words lent =
    laid 12 (humidity_list words.humidity) (laid 3 (pressure_list words.pressure) (laid 0 (temperature_list words.temperature) lent))

abbrev pub words_into : Calibration → List ℤ → ℕ × List ℤ
words_into (Err why) lent = (why.number, lent)
words_into (Ok words) lent =
    cond (leb 18 (length lent)) (no.done, with_words words lent) (no.buffer_too_short, lent)
