-- What stands in a channel's place where it has no value, of what the public calls answer: statements (proofs/Missing.antt).
use Rattle.std.specs.Prelude.{ℕ, ◌≡◌, true, List, length, Ok, Err}
use Rattle.paper.specs.Numbers as no
use Rattle.paper.specs.Registers as reg
use Rattle.paper.specs.declared.Missing.{Missing}
use Rattle.paper.specs.Answers.{missing}
use Rattle.calibration.specs.declared.Words.{Words}
use Rattle.calibration.specs.Calibration.{calibrated}
use Rattle.formula.specs.declared.Temperature.{Temperature}
use Rattle.formula_temperature.specs.Temperature.{temperature_of}
use Rattle.formula_pressure.specs.Pressure.{pressure_of}
use Rattle.formula_humidity.specs.Humidity.{humidity_of}
use Rattle.data.specs.declared.Counts.{Counts}
use Rattle.data.specs.Counts.{counts_of}
use Rattle.compensation.specs.declared.Reading.{Reading}
use Rattle.compensation.specs.Compensation.{reading, compensated}

-- ---- of the counts of a reading, with its words and codes

pub record Channels (words : Words) (counts : Counts) (t p h : ℕ) (r : Reading) : Type 0 where
  -- a skipped channel is 10, whatever the bytes
  pub skipped-temperature : t ≡ 0 → r.temperature ≡ Err (missing no.skipped)
  pub skipped-pressure : p ≡ 0 → r.pressure ≡ Err (missing no.skipped)
  pub skipped-humidity : h ≡ 0 → r.humidity ≡ Err (missing no.skipped)
  -- in an enabled channel every count is a count like any other
  pub enabled-temperature : (t ≡ 0 → ⊥) → r.temperature ≡ temperature_of words.temperature counts.temperature
  pub enabled-pressure :
      {warm : Temperature} → r.temperature ≡ Ok warm → (p ≡ 0 → ⊥) →
      r.pressure ≡ pressure_of words.pressure warm.fine counts.pressure
  pub enabled-humidity :
      {warm : Temperature} → r.temperature ≡ Ok warm → (h ≡ 0 → ⊥) →
      r.humidity ≡ humidity_of words.humidity warm.fine counts.humidity
  -- where temperature is missing, every other enabled channel is 11
  pub pressure-without : {m : Missing} → r.temperature ≡ Err m → (p ≡ 0 → ⊥) → r.pressure ≡ Err (missing no.no_temperature)
  pub humidity-without : {m : Missing} → r.temperature ≡ Err m → (h ≡ 0 → ⊥) → r.humidity ≡ Err (missing no.no_temperature)

-- of every reading that the definitions make
abbrev pub OfReadings : Type 0
OfReadings = (words : Words) (counts : Counts) (t p h : ℕ) → Channels words counts t p h (reading words counts t p h)

-- of what a call with both blocks, the data bytes and three codes answers: with the words that the blocks hold and eight bytes, codes of 0 to 7 are
-- answered by a reading, and every reading that is answered is such a one
abbrev pub Answered : Type 0
Answered =
    (one two bytes : List ℕ) (t p h : ℕ) (words : Words) → calibrated one two ≡ Ok words → length bytes ≡ reg.data_length →
    reg.are_codes t p h ≡ true →
    compensated one two bytes t p h ≡ Ok (reading words (counts_of bytes) t p h)

pub record OfAnswer (one two bytes : List ℕ) (t p h : ℕ) (r : Reading) : Type 0 where
  pub words : Words
  pub known : calibrated one two ≡ Ok words
  pub channels : Channels words (counts_of bytes) t p h r

abbrev pub OfAnswers : Type 0
OfAnswers =
    (one two bytes : List ℕ) (t p h : ℕ) (r : Reading) →
    compensated one two bytes t p h ≡ Ok r → OfAnswer one two bytes t p h r

-- ---- counts that a skipped channel stores are counts like any other in an enabled one

abbrev pub StoredBySkipped : Type 0
StoredBySkipped = counts_of reg.fresh_bytes ≡ record { temperature = 0x80000; pressure = 0x80000; humidity = 0x8000 }

abbrev pub EnabledAt80000 : Type 0
EnabledAt80000 =
    (words : Words) (t p h : ℕ) → (t ≡ 0 → ⊥) →
    (reading words (counts_of reg.fresh_bytes) t p h).temperature ≡ temperature_of words.temperature 0x80000
