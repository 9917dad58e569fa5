-- What holds of compensation by the kind of part, of every call: statements (proofs/Both.antt).
use Rattle.std.specs.Prelude.{ℕ, ◌≤◌, ◌≡◌, List, [], length, take, Ok, Err}
use Rattle.paper.specs.Numbers as no
use Rattle.paper.specs.Registers as reg
use Rattle.kinds.specs.declared.Kind.{Kind}
use Rattle.kinds.specs.declared.Kind.TheVariants.{Bme280, Bmp280}
use Rattle.kinds.specs.Chips.{facts}
use Rattle.data.specs.declared.Counts.{Counts}
use Rattle.data.specs.Counts.{counts_of}
use Rattle.calibration.specs.declared.Words.{Words}
use Rattle.calibration.specs.Calibration.{words_of}
use Rattle.paper.specs.Answers.{missing, refusal}
use Rattle.compensation.specs.declared.Reading.{Reading}
use Rattle.compensation.specs.Compensation.{Answer, compensated}
use Rattle.compensation_kinds.specs.Kinds.{reading_by, compensated_by}

-- ---- the BME280's call is what it was

abbrev pub AsBefore : Type 0
AsBefore = (one two bytes : List ℕ) (t p h : ℕ) → compensated_by Bme280 one two bytes t p h ≡ compensated one two bytes t p h

-- ---- both kinds give the same temperature and the same pressure

-- of readings: with the same words and counts and the same two codes, whatever the third ones
pub record SameTwo (r s : Reading) : Type 0 where
  pub temperature : r.temperature ≡ s.temperature
  pub pressure : r.pressure ≡ s.pressure

abbrev pub SameReadings : Type 0
SameReadings = (a b : Kind) (words : Words) (counts : Counts) (t p h k : ℕ) → SameTwo (reading_by a words counts t p h) (reading_by b words counts t p k)

-- of calls: the BMP280's, with the same block one, an empty block two and the first six bytes, is answered as the BME280's, but that its humidity
-- is 10; so it is refused where that is
abbrev pub without_humidity : Answer → Answer
without_humidity (Ok r) = Ok (record { temperature = r.temperature; pressure = r.pressure; humidity = Err (missing no.skipped) })
without_humidity (Err r) = Err r

abbrev pub SameCalls : Type 0
SameCalls =
    (one two bytes : List ℕ) (t p h : ℕ) → length two ≡ reg.block_two → length bytes ≡ reg.data_length →
    compensated_by Bmp280 one [] (take 6 bytes) t p h ≡ without_humidity (compensated_by Bme280 one two bytes t p h)

-- ---- a BMP280's humidity is always 10

abbrev pub NoHumidity : Type 0
NoHumidity =
    (one two bytes : List ℕ) (t p h : ℕ) (r : Reading) → compensated_by Bmp280 one two bytes t p h ≡ Ok r → r.humidity ≡ Err (missing no.skipped)

-- ---- when a call is refused, of either kind

abbrev pub Exactly : Type 0 → Type 0 → Type 0
Exactly A B = (A → B) × (B → A)

-- block one, block two and the data are as long as those of the kind of part
pub record Lengths (kind : Kind) (l m n : ℕ) : Type 0 where
  pub one : l ≡ (facts kind).one
  pub two : m ≡ (facts kind).two
  pub bytes : n ≡ (facts kind).bytes

-- each code is one of 0 to 7
pub record Codes (t p h : ℕ) : Type 0 where
  pub temperature : t ≤ reg.last_code
  pub pressure : p ≤ reg.last_code
  pub humidity : h ≤ reg.last_code

module _ (kind : Kind) (one two bytes : List ℕ) (t p h : ℕ) where
  abbrev answer : Answer
  answer = compensated_by kind one two bytes t p h

  abbrev fitting : Type 0
  fitting = Lengths kind (length one) (length two) (length bytes)

  pub record Decided : Type 0 where
    -- 2 exactly where a length is not the part's
    pub by_lengths : Exactly (answer ≡ Err (refusal no.wrong_length)) (fitting → ⊥)
    -- 7 exactly where the lengths are right and a code is above 7, the third included
    pub by_codes : Exactly (answer ≡ Err (refusal no.out_of_range)) (fitting × (Codes t p h → ⊥))
    -- nothing else refuses: with right lengths and codes there is a reading, and no other number refuses
    pub done : fitting → Codes t p h → answer ≡ Ok (reading_by kind (words_of one two) (counts_of bytes) t p h)
    pub no_other : (n : ℕ) → answer ≡ Err (refusal n) → (n ≡ no.wrong_length → ⊥) → n ≡ no.out_of_range
