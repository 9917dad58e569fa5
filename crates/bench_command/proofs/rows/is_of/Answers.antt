-- The first words, and then their number.
use Rattle.laws.specs.Cases.{cases}
use Rattle.bench_command.specs.Table.{is_of}
use Rattle.bench_command.proofs.rows.is_of.Goals as goal

pub returns-then-not-fits : goal.returns-then-not-fits
unfolding is_of
returns-then-not-fits c = search cases

pub returns-then-is_open : goal.returns-then-is_open
unfolding is_of
returns-then-is_open c = rw c.count-count.ensures (search cases)

pub returns-else-is_open : goal.returns-else-is_open
unfolding is_of
returns-else-is_open c = rw c.count-count.ensures (search cases)
