-- What compensation makes of a whole close's bytes and codes is what the formulas make of the counts that were handed to that conversion's finish, each skipped
-- channel 10. It holds for both kinds of part, after every list of events from the fresh state, refused ones included (proofs/Theorem.antt).
use Rattle.std.specs.Prelude.{ℕ, suc, ◌<◌, ◌≡◌, true, cond, List, [], ◌∷◌, eqb, length, Ok}
use Rattle.paper.specs.Registers as reg
use Rattle.kinds.specs.declared.Kind.{Kind}
use Rattle.kinds.specs.declared.Kind.TheVariants.{Bme280}
use Rattle.kinds.specs.Chips.{facts}
use Rattle.calibration.specs.declared.Words.{Words}
use Rattle.calibration.specs.Calibration.{words_of, calibrated}
use Rattle.data.specs.declared.Counts.{Counts}
use Rattle.data.specs.Counts.{counts_of}
use Rattle.compensation.specs.Compensation.{reading, compensated_words, compensated}
use Rattle.compensation_kinds.specs.Kinds.{reading_by, compensated_by}
use Rattle.machine.specs.declared.Codes.{Codes}
use Rattle.machine.specs.declared.Event.{Event}
use Rattle.machine.specs.declared.Event.TheVariants.{Power, Copied, Write, Finish, Wake, Open, Byte, Close}
use Rattle.machine.specs.declared.Outcome.{Outcome}
use Rattle.ledger.specs.Happening.{Happening, began, finished, lost, opened, gave, closed, changed}
use Rattle.ledger.specs.Device.{zero_codes, device_in}
use Rattle.ledger.specs.History.{begun_in}

-- ---- conversion n, by the history alone

-- the codes that it began with: those latched then
abbrev pub began_with : {kind : Kind} → List (Happening kind) → ℕ → Codes
began_with [] n = zero_codes
began_with (began ∷ h) n = cond (eqb (suc (begun_in h)) n) (device_in h).codes (began_with h n)
began_with (finished t p u ∷ h) n = began_with h n
began_with (lost ∷ h) n = began_with h n
began_with (opened a ∷ h) n = began_with h n
began_with (gave v ∷ h) n = began_with h n
began_with (closed ∷ h) n = began_with h n
began_with (changed x ∷ h) n = began_with h n

-- the counts that were handed to its finish: the one that finishes is the last that began
abbrev pub finished_with : {kind : Kind} → List (Happening kind) → ℕ → Counts
finished_with [] n = record { temperature = 0; pressure = 0; humidity = 0 }
finished_with (began ∷ h) n = finished_with h n
finished_with (finished t p u ∷ h) n = cond (eqb (begun_in h) n) (record { temperature = t; pressure = p; humidity = u }) (finished_with h n)
finished_with (lost ∷ h) n = finished_with h n
finished_with (opened a ∷ h) n = finished_with h n
finished_with (gave v ∷ h) n = finished_with h n
finished_with (closed ∷ h) n = finished_with h n
finished_with (changed x ∷ h) n = finished_with h n

-- ---- the statement

-- what is written to a register is a byte
abbrev pub WritesBytes : List Event → Type 0
WritesBytes [] = Unit {0}
WritesBytes (Power ∷ es) = WritesBytes es
WritesBytes (Copied ∷ es) = WritesBytes es
WritesBytes (Write a v ∷ es) = (v < 256) × WritesBytes es
WritesBytes (Finish t p h ∷ es) = WritesBytes es
WritesBytes (Wake ∷ es) = WritesBytes es
WritesBytes (Open a ∷ es) = WritesBytes es
WritesBytes (Byte ∷ es) = WritesBytes es
WritesBytes (Close n ∷ es) = WritesBytes es

-- Of the answer c of a whole close and what it leaves in the lent bytes, after the history h. The codes are its conversion's, and of 0 to 7. With any words the
-- channels of the bytes are those of the counts; and so is what a call with the part's two blocks answers.
pub record ReadingIsTrue {kind : Kind} (c : Outcome) (left : List ℕ) (h : List (Happening kind)) : Type 0 where
  pub codes-are : c.codes ≡ began_with h c.number
  pub are-codes : let k = c.codes in reg.are_codes k.temperature k.pressure k.humidity ≡ true
  pub by-words : (words : Words) → let k = c.codes in
      reading_by kind words (counts_of left) k.temperature k.pressure k.humidity
      ≡ reading_by kind words (finished_with h c.number) k.temperature k.pressure k.humidity
  pub by_blocks : (one two : List ℕ) → length one ≡ (facts kind).one → length two ≡ (facts kind).two → let k = c.codes in
      compensated_by kind one two left k.temperature k.pressure k.humidity
      ≡ Ok (reading_by kind (words_of one two) (finished_with h c.number) k.temperature k.pressure k.humidity)

-- of a BME280, by the calls that know no kind
pub record Bme280IsTrue (c : Outcome) (left : List ℕ) (h : List (Happening Bme280)) : Type 0 where
  pub by-words : (words : Words) → let k = c.codes in
      compensated_words words left k.temperature k.pressure k.humidity
      ≡ Ok (reading words (finished_with h c.number) k.temperature k.pressure k.humidity)
  pub by_blocks : (one two : List ℕ) (words : Words) → calibrated one two ≡ Ok words → let k = c.codes in
      compensated one two left k.temperature k.pressure k.humidity
      ≡ Ok (reading words (finished_with h c.number) k.temperature k.pressure k.humidity)
