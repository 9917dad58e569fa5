-- The codes are tested as the definition tests them, and then the sum is the definition's.
use Rattle.laws.specs.Cases.{cases}
use Rattle.waiting.specs.Waiting.{waited}
use Rattle.waiting.proofs.estimate_wait.Goals as goal

pub returns-then-not-are_codes : goal.returns-then-not-are_codes
unfolding waited
returns-then-not-are_codes c = search cases

pub returns : goal.returns
unfolding waited
returns c = rw (c.microseconds.ensures, c.figures_of-figures.ensures) (search cases)
