-- `onegrish_words::onegrish_words` meets its contract: what the calibration answers is handed over. Assumes nothing.
use Rattle.calibration.proofs.OneAnswer.{one-calibration}
use Rattle.onegrish_words.proofs.onegrish_words.Goals as goal

pub returns : goal.returns
returns c = rw (← one-calibration _ _ c.calibrate.ensures) c.hand_words.ensures
