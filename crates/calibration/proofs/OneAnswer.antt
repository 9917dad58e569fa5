-- Two answers that the promise allows are equal: the paper's number and values leave only one case, with the same words.
use mathlib.Core.Path.{◌≡◌, ap}
use mathlib.Core.List.{List}
use Prim.Native.Nat.{ℕ}
use lib.IntN.{ℤ, pos}
use lib.ListN.{get_or}
use lib.Signed.{mag}
use Rattle.std.specs.Prelude.{Ok, Err}
use Rattle.paper.specs.Answers.{refusal}
use Rattle.paper.proofs.Answers.{same_number, same-values}
use Rattle.calibration.specs.declared.Words.{Words}
use Rattle.calibration.specs.Calibration.{Calibration, values, calibration_answer}

-- the words that a list of values has
abbrev words_in : List ℤ → Words
words_in l =
    let v : ℕ → ℤ = λ i. get_or l i (pos 0) in
    record {
      temperature = record { t1 = mag (v 0); t2 = v 1; t3 = v 2 };
      pressure = record { p1 = mag (v 3); p2 = v 4; p3 = v 5; p4 = v 6; p5 = v 7; p6 = v 8; p7 = v 9; p8 = v 10; p9 = v 11 };
      humidity = record { h1 = mag (v 12); h2 = v 13; h3 = mag (v 14); h4 = v 15; h5 = v 16; h6 = v 17 };
    }

same-words : (w v : Words) → values w ≡ values v → w ≡ v
unfolding values
same-words w v e = ap words_in e

-- what `calibrate` promises fixes its answer
pub one-calibration : (a b : Calibration) → calibration_answer a ≡ calibration_answer b → a ≡ b
unfolding calibration_answer values
one-calibration (Ok w) (Ok v) e = ap Ok (same-words w v (same-values e))
one-calibration (Ok w) (Err k) e = cc (same-values e)
one-calibration (Err j) (Ok v) e = cc (same-values e)
one-calibration (Err j) (Err k) e = ap (λ (number : ℕ). Err (refusal number)) (same_number e)
