-- The parts of the bytes, in their order.
use Rattle.bench_question.specs.Questions.{answer}
use Rattle.compensation.proofs.OneAnswer.{one-reading}
use Rattle.bench_question.proofs.compensate.Goals as goal

pub returns : goal.returns
unfolding answer
returns c =
    rw (
      one-reading _ _ c.compensate.ensures,
      c.front-3.ensures,
      c.rest.ensures,
      c.front-2.ensures,
      c.front.ensures,
      c.rest-after.ensures,
    )
