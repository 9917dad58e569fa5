-- The counts are read where the codes are enabled.
use Rattle.laws.specs.Cases.{cases}
use Rattle.plain_reading.specs.Plain.{read_plainly}
use Rattle.plain_reading.proofs.read.Goals as goal

pub returns-then-not-are_enabled : goal.returns-then-not-are_enabled
unfolding read_plainly
returns-then-not-are_enabled c = search cases

pub returns : goal.returns
unfolding read_plainly
returns c = rw (c.read_counts.ensures, c.count.ensures) (search cases)
