-- `onegrish_compensate_words` meets its contract: the bytes' length decides, and then the words that were kept. Assumes nothing.
use borrow.Author.Tests.{eq-eqb, ne_eqb}
use Rattle.calibration.proofs.OneAnswer.{one-calibration}
use Rattle.onegrish_words.specs.Kept.{compensated_kept}
use Rattle.onegrish_words.proofs.onegrish_compensate_words.Goals as goal

pub returns-then-bytes-eq-DATA : goal.returns-then-bytes-eq-DATA
unfolding compensated_kept
returns-then-bytes-eq-DATA c =
    rw (eq-eqb _ _ c.if-bytes-eq-DATA.true) (rw (one-calibration _ _ c.take_words.ensures) at c.hand_compensated.ensures)

pub returns : goal.returns
unfolding compensated_kept
returns c = rw (ne_eqb _ _ c.if-bytes-eq-DATA.false)
