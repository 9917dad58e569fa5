-- The theorem that joins machine and compensation: from what a whole close shows, what is known of that conversion, and what compensation takes out of its bytes.
use Prim.Native.Nat.{ℕ, suc}
use mathlib.Core.Path.{◌≡◌, refl, sym, ap, ◌∙◌}
use mathlib.Core.Bool.{true}
use mathlib.Core.List.{List, [], ◌∷◌}
use native.Mathlib.Omega.{arith}
use lib.ListN.{length, take}
use borrow.Author.Tests.{eq-eqb, ne_eqb}
use Rattle.std.specs.Prelude.{Ok}
use Rattle.paper.specs.Registers as reg
use Rattle.calibration.specs.declared.Words.{Words}
use Rattle.calibration.specs.Calibration.{words_of, calibrated}
use Rattle.data.specs.declared.Counts.{Counts}
use Rattle.data.specs.Counts.{counts_of}
use Rattle.compensation.specs.declared.Reading.{Reading}
use Rattle.compensation.specs.Compensation.{compensated_words, compensated}
use Rattle.compensation_kinds.specs.Kinds.{reading_by, compensated_by}
use Rattle.kinds.specs.declared.Kind.{Kind}
use Rattle.kinds.specs.declared.Kind.TheVariants.{Bme280, Bmp280}
use Rattle.kinds.specs.Chips.{facts}
use Rattle.machine.specs.declared.Codes.{Codes}
use Rattle.machine.specs.declared.Event.{Event}
use Rattle.machine.specs.declared.Outcome.{Outcome}
use Rattle.machine.specs.State.{fresh}
use Rattle.machine.specs.Events as ev
use Rattle.machine.specs.Event.{after}
use Rattle.ledger.specs.Happening.{Happening, began, finished, lost, opened, gave, closed, changed}
use Rattle.ledger.specs.Device.{zero_codes}
use Rattle.ledger.specs.History.{Measurement, begun_in, shown_by}
use Rattle.ledger.specs.Statements.{Shows}
use Rattle.ledger.specs.Added.{history}
use Rattle.ledger.proofs.Theorems.{close-is-true}
use Rattle.ledger_reading.specs.Reading.{began_with, finished_with, WritesBytes, ReadingIsTrue, Bme280IsTrue}
use Rattle.ledger_reading.proofs.Added.{sound}
use Rattle.ledger_reading.proofs.Shown.{Known, none, one, shown}
use Rattle.ledger_reading.proofs.Counted.{codes-pass, reads}

-- what the formulas make of counts, under codes
abbrev meant : Kind → Words → Counts → Codes → Reading
meant kind words k c = reading_by kind words k c.temperature c.pressure c.humidity

-- ---- a measurement that is known in the history h

record Read {kind : Kind} (h : List (Happening kind)) (c : Measurement) : Type 0 where
  codes-are : c.codes ≡ began_with h c.number
  are-codes : reg.are_codes c.codes.temperature c.codes.pressure c.codes.humidity ≡ true
  by-words : (words : Words) → meant kind words (counts_of (take (facts kind).bytes c.bytes)) c.codes ≡ meant kind words (finished_with h c.number) c.codes

none-began : {kind : Kind} (h : List (Happening kind)) → began_with h 0 ≡ zero_codes
none-began [] = refl
none-began (began ∷ h) = rw (ne_eqb (suc (begun_in h)) 0 (λ e. omega arith)) (none-began h)
none-began (finished t p u ∷ h) = none-began h
none-began (lost ∷ h) = none-began h
none-began (opened a ∷ h) = none-began h
none-began (gave v ∷ h) = none-began h
none-began (closed ∷ h) = none-began h
none-began (changed x ∷ h) = none-began h

-- with all channels skipped no count is looked at
skipped-all : (kind : Kind) (words : Words) (k l : Counts) → meant kind words k zero_codes ≡ meant kind words l zero_codes
skipped-all Bme280 words k l = refl
skipped-all Bmp280 words k l = refl

read : {kind : Kind} (h : List (Happening kind)) (c : Measurement) → Known h c → Read h c
read {kind} h c none =
    let fresh-counts = counts_of (take (facts kind).bytes (facts kind).fresh) in
    record { codes-are = sym (none-began h); are-codes = refl; by-words = λ words. skipped-all kind words fresh-counts (finished_with h 0) }
read {kind} h c (one _ o) = record {
  codes-are = o.codes-are;
  are-codes = codes-pass c.codes o.codes-fit;
  by-words = λ words.
      ap (λ (b : List ℕ). meant kind words (counts_of (take (facts kind).bytes b)) c.codes) o.bytes-are
      ∙ reads kind words c.codes (finished_with h c.number) o.counts-fit;
}

-- ---- the close that shows it

module _ {kind : Kind} (c : Outcome) (left : List ℕ) (h : List (Happening kind)) (s : Shows c left h) (r : Read h (shown_by h)) where
  by-words : (words : Words) → meant kind words (counts_of left) c.codes ≡ meant kind words (finished_with h c.number) c.codes
  by-words words = rw (s.codes-are, s.bytes-are, s.number_is) (r.by-words words)

  are-codes : reg.are_codes c.codes.temperature c.codes.pressure c.codes.humidity ≡ true
  are-codes = rw s.codes-are r.are-codes

  -- with blocks and bytes of the part's lengths
  by_blocks : (first second : List ℕ) → length first ≡ (facts kind).one → length second ≡ (facts kind).two
      → compensated_by kind first second left c.codes.temperature c.codes.pressure c.codes.humidity
      ≡ Ok (meant kind (words_of first second) (finished_with h c.number) c.codes)
  unfolding compensated_by
  by_blocks first second l m =
      rw (eq-eqb (length first) (facts kind).one l, eq-eqb (length second) (facts kind).two m, eq-eqb (length left) (facts kind).bytes s.length-is, are-codes)
      (ap Ok (by-words (words_of first second)))

  joined : ReadingIsTrue c left h
  joined = record {
    codes-are = s.codes-are ∙ (r.codes-are ∙ ap (began_with h) (sym s.number_is));
    are-codes = are-codes;
    by-words = by-words;
    by_blocks = by_blocks;
  }

pub reading-is-true : (kind : Kind) (es : List Event) → WritesBytes es → (lent : List ℕ) → let x = ev.closed (after (fresh kind) es) lent in
    x.0.whole ≡ true → ReadingIsTrue x.0 x.1 (history kind es)
reading-is-true kind es b lent w =
    let x = ev.closed (after (fresh kind) es) lent in
    let h = history kind es in
    joined x.0 x.1 h ((close-is-true kind es lent).whole-shows w) (read h (shown_by h) (shown h (sound kind es b)))

-- ---- of a BME280, by the calls that know no kind

module _ (c : Outcome) (left : List ℕ) (h : List (Happening Bme280)) (s : Shows c left h) (r : ReadingIsTrue c left h) where
  of_words : (words : Words) → compensated_words words left c.codes.temperature c.codes.pressure c.codes.humidity
      ≡ Ok (meant Bme280 words (finished_with h c.number) c.codes)
  unfolding compensated_words
  of_words words = rw r.are-codes (ap Ok (r.by-words words))

  of_blocks : (first second : List ℕ) (words : Words) → calibrated first second ≡ Ok words
      → compensated first second left c.codes.temperature c.codes.pressure c.codes.humidity
      ≡ Ok (meant Bme280 words (finished_with h c.number) c.codes)
  unfolding compensated
  of_blocks first second words e = rw (e, eq-eqb (length left) reg.data_length s.length-is) (of_words words)

pub bme280-is-true : (es : List Event) → WritesBytes es → (lent : List ℕ) → let x = ev.closed (after (fresh Bme280) es) lent in
    x.0.whole ≡ true → Bme280IsTrue x.0 x.1 (history Bme280 es)
bme280-is-true es b lent w =
    let x = ev.closed (after (fresh Bme280) es) lent in
    let h = history Bme280 es in
    let s = (close-is-true Bme280 es lent).whole-shows w in
    let r = reading-is-true Bme280 es b lent w in
    record { by-words = of_words x.0 x.1 h s r; by_blocks = of_blocks x.0 x.1 h s r }
