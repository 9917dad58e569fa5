-- `calibration::calibrate` meets its contract: the lengths decide, and then the words are those at their places. Assumes nothing.
use mathlib.Core.Path.{ap}
use Rattle.laws.specs.Cases.{cases}
use Rattle.calibration.specs.Calibration.{calibrated, calibration_answer}
use Rattle.calibration.proofs.calibrate.Goals as goal
use Rattle.calibration.proofs.calibrate.Goals.{then-one-ne-BLOCK_ONE-via-then-one-ne-BLOCK_ONE, then-one-ne-BLOCK_ONE-via-else-one-ne-BLOCK_ONE+then-two-ne-BLOCK_TWO}

pub returns-then-one-ne-BLOCK_ONE : goal.returns-then-one-ne-BLOCK_ONE
unfolding calibrated
returns-then-one-ne-BLOCK_ONE c =
    elim c.then-one-ne-BLOCK_ONE.branch [
      | then-one-ne-BLOCK_ONE-via-then-one-ne-BLOCK_ONE w ↦ ap calibration_answer (search cases)
      | then-one-ne-BLOCK_ONE-via-else-one-ne-BLOCK_ONE+then-two-ne-BLOCK_TWO w ↦ ap calibration_answer (search cases)
    ]

pub returns : goal.returns
unfolding calibrated
returns c =
    ap calibration_answer
    (rw (c.humidity_words.ensures, c.pressure_words.ensures, c.temperature_words.ensures) (search cases))
