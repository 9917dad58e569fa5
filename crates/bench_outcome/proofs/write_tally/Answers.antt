-- The form with its numbers.
use Rattle.bench_outcome.specs.Outcomes.{tally}
use Rattle.bench_outcome.proofs.Bits.{flag}
use Rattle.bench_outcome.proofs.write_tally.Goals as goal

pub returns : goal.returns
unfolding tally
returns c = rw (c.fill.ensures, flag, flag, flag)
