-- `onegrish_rooms::onegrish_point` meets its contract: what the reading answers is marked, and the marks are handed over.
use Rattle.compensation.proofs.OneAnswer.{one-reading}
use Rattle.onegrish_rooms.proofs.onegrish_point.Goals as goal

pub returns : goal.returns
returns c =
    rw (c.mark.ensures, one-reading _ _ c.compensate.ensures) at c.hand_marks.ensures
