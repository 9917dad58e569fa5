-- `onegrish_compensate` meets its contract: the blocks give their words, and these the reading that is handed over. Assumes nothing.
use Rattle.calibration.proofs.OneAnswer.{one-calibration}
use Rattle.compensation.specs.Compensation.{compensated}
use Rattle.onegrish.proofs.onegrish_compensate.Goals as goal

pub returns : goal.returns
unfolding compensated
returns c =
    rw (one-calibration _ _ c.calibrate.ensures) at c.hand_compensated.ensures
