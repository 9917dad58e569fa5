-- The bench sheet of exact results: K1 to K14 as one table, and one theorem over it.
use Rattle.std.specs.Prelude.{ℕ, ◌≡◌, ℤ, pos, negsuc, Ok, Err}
use mathlib.Core.List.{List, [], ◌∷◌, ◌++◌, Memᴰ}
use Rattle.steps.specs.declared.Signed.TheVariants.{Bits64}
use Rattle.steps.specs.Step.{Num}
use Rattle.steps.specs.Work.{Work, given, share, run, ◌+ʷ◌, ◌<<◌, ◌>>◌}
use Rattle.calibration.specs.declared.PressureWords.{PressureWords}
use Rattle.calibration.specs.Calibration.{calibrated}
use Rattle.formula.specs.Answers.{TemperatureAnswer}
use Rattle.formula_temperature.specs.Temperature as t
use Rattle.formula_pressure.specs.Pressure as p
use Rattle.compensation.specs.Compensation.{pressure_at, humidity_at, compensated, reading_answer}
use Rattle.waiting.specs.Waiting as w
use Rattle.waiting.specs.Polling as poll
use Rattle.bus.specs.declared.Device.{Device}
use Rattle.bus.specs.declared.Device.TheVariants.{At, Selected}
use Rattle.bus.specs.Writing.{encoded_write}
use Rattle.machine.specs.Bench.{k12, k13}
use Rattle.sheet.specs.Row.{Row}
use Rattle.sheet.specs.Figures.{of_temperature, of_fine, of_channel, of_calibration, of_reading, of_answer, of_encoded}
use Rattle.sheet.specs.Walks.{after_close}

abbrev k : ℕ → List ℤ → List ℤ → Row
k n defined printed = record { name = n; defined = defined; printed = printed }

abbrev of_num : Num → List ℤ
of_num (Ok z) = pos 0 ∷ z ∷ []
of_num (Err m) = pos m.number ∷ []

-- ---- the chips of the sheet

abbrev heat1 : TemperatureAnswer
heat1 = t.temperature_of (record { t1 = 27504; t2 = pos 26435; t3 = negsuc 999 }) 519888

abbrev pressure_words : ℕ → PressureWords
pressure_words p1 = record {
  p1 = p1;
  p2 = negsuc 10684;
  p3 = pos 3024;
  p4 = pos 2855;
  p5 = pos 140;
  p6 = negsuc 6;
  p7 = pos 15500;
  p8 = negsuc 14599;
  p9 = pos 6000;
}

abbrev heat3 : ℕ → TemperatureAnswer
heat3 count = t.temperature_of (record { t1 = 0; t2 = pos 1; t3 = pos 0 }) count

abbrev heat5 : TemperatureAnswer
heat5 = t.temperature_of (record { t1 = 0; t2 = pos 2048; t3 = pos 0 }) 614400

abbrev humidity5 : ℤ → ℕ → List ℤ
humidity5 h4 count =
    of_channel (humidity_at heat5 (record { h1 = 75; h2 = pos 362; h3 = 0; h4 = h4; h5 = pos 0; h6 = pos 0 }) count)

-- block one of the chip of K1 and K2, with H1 75, and block two with the bytes of K8
abbrev block_one : List ℕ
block_one =
    0x70 ∷ 0x6B ∷ 0x43 ∷ 0x67 ∷ 0x18 ∷ 0xFC ∷ 0x7D ∷ 0x8E ∷ 0x43 ∷ 0xD6 ∷ 0xD0 ∷ 0x0B ∷ 0x27
    ∷ 0x0B ∷ 0x8C ∷ 0x00 ∷ 0xF9 ∷ 0xFF ∷ 0x8C ∷ 0x3C ∷ 0xF8 ∷ 0xC6 ∷ 0x70 ∷ 0x17 ∷ 0x00 ∷ 0x4B ∷ []

abbrev block_two : List ℕ
block_two = 0 ∷ 0 ∷ 0 ∷ 0xFF ∷ 0x1F ∷ 0x80 ∷ 0 ∷ []

-- the counts of K1 and K2 in the data bytes: pressure 415148, temperature 519888, humidity 0
abbrev bytes14 : List ℕ
bytes14 = 0x65 ∷ 0x5A ∷ 0xC0 ∷ 0x7E ∷ 0xED ∷ 0x00 ∷ 0 ∷ 0 ∷ []

-- F4 with 0x27, into as many lent bytes as it takes
abbrev written10 : Device → List ℕ → List ℤ
written10 device lent = of_encoded (encoded_write device (0xF4 ∷ 0x27 ∷ []) lent)

-- K2 with the last line as it is printed without the bracket
unfoldable pub unbracketed_line : PressureWords → ℤ → ℤ → ℤ → Work
unbracketed_line words q var1 var2 = (given q +ʷ given var1 +ʷ given var2 >> 8) +ʷ given words.p7 << 4

abbrev of_unbracketed : TemperatureAnswer → PressureWords → ℕ → List ℤ
of_unbracketed (Err m) words count = pos m.number ∷ []
of_unbracketed (Ok warm) words count =
    of_num
    (run Bits64
    (share (p.difference_line warm.fine) λ difference.
    share (p.offset_lines words difference) λ var2.
    share (p.divisor_lines words difference) λ var1.
    share (p.quotient_lines count var2 var1) λ q.
    share (p.curve_line words q) λ var1.
    share (p.slope_line words q) λ var2.
    unbracketed_line words q var1 var2))

-- ---- the table

unfoldable pub sheet : List Row
sheet =
    k 1 (of_fine heat1 ++ of_temperature heat1) (pos 128422 ∷ pos 0 ∷ pos 2508 ∷ [])
    ∷ k 2 (of_channel (pressure_at heat1 (pressure_words 36477) 415148)) (pos 0 ∷ pos 25767233 ∷ [])
    ∷ k 2 (of_unbracketed heat1 (pressure_words 36477) 415148) (pos 0 ∷ pos 408555728 ∷ [])
    ∷ k 3 (of_temperature (heat3 741455)) (pos 0 ∷ pos 1 ∷ [])
    ∷ k 3 (of_temperature (heat3 741456)) (pos 12 ∷ [])
    ∷ k 4 (of_channel (pressure_at heat1 (pressure_words 0) 415148)) (pos 13 ∷ [])
    ∷ k 5 (of_fine heat5 ++ humidity5 (pos 0) 8192) (pos 76800 ∷ pos 0 ∷ pos 46036 ∷ [])
    ∷ k 6 (humidity5 (pos 0) 32768) (pos 0 ∷ pos 102400 ∷ [])
    ∷ k 7 (humidity5 (pos 1) 0) (pos 0 ∷ pos 0 ∷ [])
    ∷ k 8 (of_calibration (calibrated block_one block_two)) (pos 0 ∷ negsuc 0 ∷ negsuc 2046 ∷ [])
    ∷ k 9 (of_answer (w.waited w.maximum 0 0 0)) (pos 0 ∷ pos 1250 ∷ [])
    ∷ k 9 (of_answer (w.waited w.maximum 1 1 1)) (pos 0 ∷ pos 9300 ∷ [])
    ∷ k 9 (of_answer (w.waited w.maximum 5 5 5)) (pos 0 ∷ pos 112800 ∷ [])
    ∷ k 10 (written10 (At 0x76) (0 ∷ 0 ∷ 0 ∷ [])) (pos 0 ∷ pos 3 ∷ pos 0xEC ∷ pos 0xF4 ∷ pos 0x27 ∷ [])
    ∷ k 10 (written10 Selected (0 ∷ 0 ∷ [])) (pos 0 ∷ pos 2 ∷ pos 0x74 ∷ pos 0x27 ∷ [])
    ∷ k 11 (of_answer (poll.polled (0x08 ∷ 0x09 ∷ 0x00 ∷ []) 3)) (pos 0 ∷ pos 2 ∷ pos 3 ∷ [])
    ∷ k 11 (of_answer (poll.polled (0x08 ∷ 0x09 ∷ 0x00 ∷ []) 2)) (pos 17 ∷ pos 2 ∷ [])
    ∷ k 12 (after_close k12) (pos 0 ∷ pos 1 ∷ pos 1 ∷ pos 2 ∷ pos 1 ∷ pos 0 ∷ pos 0 ∷ pos 1 ∷ [])
    ∷ k 13 (after_close k13) (pos 0 ∷ pos 0 ∷ pos 0 ∷ pos 2 ∷ pos 0 ∷ pos 1 ∷ pos 0 ∷ pos 1 ∷ [])
    ∷ k 14 (of_reading (reading_answer (compensated block_one block_two bytes14 0 1 0))) (pos 0 ∷ pos 10 ∷ pos 11 ∷ pos 10 ∷ [])
    ∷ []

-- every row of the table (proofs/Sheet.antt)
abbrev pub SheetHolds : Type 0
SheetHolds = (r : Row) → Memᴰ r sheet → r.defined ≡ r.printed
