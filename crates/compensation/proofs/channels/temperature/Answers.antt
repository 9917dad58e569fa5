-- `compensation::channels::temperature` meets its contract: the code decides. Assumes nothing.
use Rattle.laws.specs.Cases.{cases}
use Rattle.formula.proofs.OneAnswer.{one-temperature}
use Rattle.compensation.proofs.channels.temperature.Goals as goal

pub returns : goal.returns
returns c = rw (one-temperature _ _ c.temperature.ensures) (search cases)
