-- `compensation_kinds::bmp280::compensate` meets its contract: lengths decide, then codes. Assumes nothing.
use mathlib.Core.Path.{ap}
use Rattle.laws.specs.Cases.{cases}
use Rattle.compensation.specs.Compensation.{reading_answer}
use Rattle.compensation.proofs.OneAnswer.{one-reading}
use Rattle.compensation_kinds.specs.Kinds.{compensated_by}
use Rattle.compensation_kinds.proofs.bmp280.compensate.Goals as goal

pub returns-then-not-are_lengths : goal.returns-then-not-are_lengths
unfolding compensated_by
returns-then-not-are_lengths c = ap reading_answer (search cases)

pub returns-then-not-are_codes : goal.returns-then-not-are_codes
unfolding compensated_by
returns-then-not-are_codes c = ap reading_answer (search cases)

pub returns : goal.returns
unfolding compensated_by
returns c = ap reading_answer (rw (one-reading _ _ c.read.ensures) (search cases))
