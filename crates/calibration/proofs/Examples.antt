-- Whole calibrations, worked out apart from the definitions.
use Prim.Native.Nat.{ℕ, zero, suc}
use mathlib.Core.List.{List, [], ◌∷◌, ◌++◌}
use mathlib.Core.Path.{refl}
use lib.IntN.{pos, negsuc}
use lib.ListN.{replicate}
use Rattle.laws.specs.Tables.{Row, ◌gives◌, AllHold, in_turn}
use Rattle.paper.specs.Answers.{SignedAnswer, given, refused}
use Rattle.calibration.specs.Calibration.{values, calibrated, calibration_answer}

-- so many bytes from the first one on
abbrev counted_up : ℕ → ℕ → List ℕ
counted_up zero first = []
counted_up (suc n) first = first ∷ counted_up n (suc first)

pub calibrations : List (Row SignedAnswer)
calibrations =
    -- each byte another: every word at its place
    (calibration_answer (calibrated (counted_up 26 1) (counted_up 7 27))
    gives given (pos 513 ∷ pos 1027 ∷ pos 1541 ∷ pos 2055 ∷ pos 2569 ∷ pos 3083 ∷ pos 3597 ∷ pos 4111 ∷ pos 4625 ∷ pos 5139 ∷ pos 5653 ∷ pos 6167
    ∷ pos 26 ∷ pos 7195 ∷ pos 29 ∷ pos 495 ∷ pos 513 ∷ pos 33 ∷ []))
    -- the least that a signed word and a signed byte can be
    ∷ (calibration_answer (calibrated (in_turn 13 0 0x80) (in_turn 3 0 0x80 ++ 0x80 ∷ []))
    gives given (pos 32768 ∷ negsuc 32767 ∷ negsuc 32767 ∷ pos 32768 ∷ replicate 8 (negsuc 32767) ++ pos 128 ∷ negsuc 32767 ∷ pos 0 ∷ negsuc 2047 ∷ negsuc 2047 ∷ negsuc 127 ∷ []))
    -- and the greatest
    ∷ (calibration_answer (calibrated (in_turn 13 0xFF 0x7F) (in_turn 3 0xFF 0x7F ++ 0x7F ∷ []))
    gives given (replicate 12 (pos 32767) ++ pos 127 ∷ pos 32767 ∷ pos 255 ∷ pos 2047 ∷ pos 2047 ∷ pos 127 ∷ []))
    -- the nibbles of 0xE5 apart
    ∷ (calibration_answer (calibrated (in_turn 13 0 0) (in_turn 2 0 0 ++ 0xA5 ∷ 0 ∷ 0 ∷ []))
    gives given (replicate 15 (pos 0) ++ pos 5 ∷ pos 10 ∷ pos 0 ∷ []))
    -- a byte too few or too many in either block
    ∷ (calibration_answer (calibrated (counted_up 25 0) (counted_up 7 0)) gives refused 2)
    ∷ (calibration_answer (calibrated (counted_up 27 0) (counted_up 7 0)) gives refused 2)
    ∷ (calibration_answer (calibrated (counted_up 26 0) (counted_up 6 0)) gives refused 2)
    ∷ (calibration_answer (calibrated (counted_up 26 0) (counted_up 8 0)) gives refused 2)
    ∷ []

pub all_hold : AllHold calibrations
unfolding calibrations calibrated calibration_answer values
all_hold = refl
