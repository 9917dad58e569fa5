-- `compensation_kinds::compensate` meets its contract: by the kind. Assumes nothing.
use Rattle.compensation_kinds.proofs.Both.{as_before}
use Rattle.compensation_kinds.proofs.compensate.Goals as goal

pub returns-in-Bme280 : goal.returns-in-Bme280
returns-in-Bme280 c = rw (c.in-Bme280.is, as_before) c.compensate.ensures
