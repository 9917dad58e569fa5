-- The words, and then their text.
use Rattle.calibration.proofs.OneAnswer.{one-calibration}
use Rattle.bench_reading.proofs.cal.Goals as goal

pub returns : goal.returns
returns c = rw (c.write_calibration.ensures, one-calibration _ _ c.calibrate.ensures)
