-- `compensation::compensate_with` meets its contract: what refused the blocks refuses the reading, and then the data's length decides. Assumes nothing.
use mathlib.Core.Path.{ap}
use Rattle.laws.specs.Cases.{cases}
use Rattle.compensation.specs.Compensation.{compensated_words, reading_answer}
use Rattle.compensation.proofs.OneAnswer.{one-reading}
use Rattle.compensation.proofs.compensate_with.Goals as goal

pub returns : goal.returns
unfolding compensated_words
returns c =
    let eight = c.in-Ok.ensures.1 in
    ap reading_answer (rw (one-reading _ _ c.compensate_words.ensures, c.in_ok-words.was, eight.same) (search (cases, eight.long)))
