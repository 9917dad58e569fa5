-- `compensation_kinds::bmp280::read` meets its contract: with lengths and codes that are right, what the BME280's call makes is the reading. Assumes nothing.
use Rattle.calibration.specs.Calibration.{calibrated}
use Rattle.compensation.specs.Compensation.{compensated_words, compensated}
use Rattle.compensation_kinds.proofs.bmp280.read.Goals as goal

pub returns : goal.returns
unfolding compensated calibrated compensated_words
returns c =
    rw (c.requires.0, c.requires.2) at c.compensate.ensures
