-- `onegrish_rooms::onegrish_compare_rooms` meets its contract: what both readings answer is compared, and the verdicts are handed over.
use Rattle.compensation.proofs.OneAnswer.{one-reading}
use Rattle.onegrish_rooms.proofs.onegrish_compare_rooms.Goals as goal

pub returns : goal.returns
returns c =
    rw (
      c.compare_rooms.ensures,
      one-reading _ _ c.compensate-2.ensures,
      one-reading _ _ c.compensate.ensures,
    ) at c.hand_verdicts.ensures
