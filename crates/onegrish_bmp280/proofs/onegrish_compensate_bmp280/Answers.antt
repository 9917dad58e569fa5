-- `onegrish_compensate_bmp280` meets its contract: what the part's bytes make is handed over. Assumes nothing.
use Rattle.compensation.proofs.OneAnswer.{one-reading}
use Rattle.onegrish_bmp280.proofs.onegrish_compensate_bmp280.Goals as goal

pub returns : goal.returns
returns c =
    rw (one-reading _ _ c.compensate.ensures) at c.hand_reading.ensures
