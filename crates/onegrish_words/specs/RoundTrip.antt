-- Kept words answer as their blocks do: a statement over what the two calls promise (proofs/RoundTrip.antt).
use Rattle.std.specs.Prelude.{ℕ, ◌<◌, ◌≡◌, List, ℤ, get_or, take}
use Rattle.paper.specs.Numbers as no
use Rattle.calibration.specs.Calibration.{calibrated}
use Rattle.compensation.specs.Compensation.{compensated}
use Rattle.onegrish_laid.specs.Written.{words_into}
use Rattle.onegrish_words.specs.Kept.{compensated_kept}

-- each of the list is a byte
abbrev pub AllBytes : List ℕ → Type 0
AllBytes block = (k : ℕ) → get_or block k 0 < 256

-- where the words of two blocks were written into lent places with 0, a reading with the first 18 places is a reading with the blocks
abbrev pub AsTheBlocks : Type 0
AsTheBlocks =
    (one two : List ℕ) → AllBytes one → AllBytes two →
    (lent : List ℤ) → (words_into (calibrated one two) lent).0 ≡ no.done →
    (bytes : List ℕ) (t p h : ℕ) →
    compensated_kept (take 18 (words_into (calibrated one two) lent).1) bytes t p h ≡ compensated one two bytes t p h
