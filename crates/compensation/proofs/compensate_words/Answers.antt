-- `compensation::compensate_words` meets its contract: the codes decide. Assumes nothing.
use mathlib.Core.Path.{ap}
use Rattle.laws.specs.Cases.{cases}
use Rattle.compensation.specs.Compensation.{compensated_words, reading_answer}
use Rattle.compensation.proofs.compensate_words.Goals as goal

pub returns-then-not-are_codes : goal.returns-then-not-are_codes
unfolding compensated_words
returns-then-not-are_codes c = ap reading_answer (search cases)

pub returns : goal.returns
unfolding compensated_words
returns c = ap reading_answer (rw (c.read.ensures, c.count.ensures) (search cases))
