-- The rest of the line up to its first space.
use Rattle.bench_numbers.proofs.Front.{front}
use Rattle.bench_numbers.proofs.words.word.Goals as goal

pub returns-clause-value : goal.returns-clause-value
returns-clause-value c = rw (← c.rest-rest.ensures) (front _ _ c.before_space.ensures.within c.before_space.ensures.before c.before_space.ensures.found)
