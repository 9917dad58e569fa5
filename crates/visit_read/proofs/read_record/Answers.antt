-- What was counted decides, and only a record that fits is read a second time, into the list.
use Rattle.std.proofs.Common.{refl}
use Rattle.visit.proofs.OneAnswer.{passed_on}
use Rattle.visit_read.proofs.SameWhole.{visit-long, visit-refused, refusal-told, visit-short, visit-read, not-refused}
use Rattle.visit_read.proofs.read_record.Goals as goal

pub returns-then-bytes-gt-MOST_BYTES-clause-steps_after : goal.returns-then-bytes-gt-MOST_BYTES-clause-steps_after
returns-then-bytes-gt-MOST_BYTES-clause-steps_after c = visit-long _ _ c.if-bytes-gt-MOST_BYTES.true

pub returns-then-steps-count-clause-steps_after : goal.returns-then-steps-count-clause-steps_after
returns-then-steps-count-clause-steps_after c =
    visit-short _ _ c.if-bytes-gt-MOST_BYTES.false _ _ c.in_ok-count.ensures _ refl c.if-steps-count.true

pub returns-clause-steps_after : goal.returns-clause-steps_after
returns-clause-steps_after c =
    visit-read _ _ c.if-bytes-gt-MOST_BYTES.false _ _ c.in_ok-count.ensures _ _ _ refl c.if-steps-count.false c.read_whole.ensures

pub returns-in_err-count-clause-steps_after : goal.returns-in_err-count-clause-steps_after
returns-in_err-count-clause-steps_after c =
    rw (passed_on _ _ c.from_residual.ensures.1)
    (visit-refused _ _ c.if-bytes-gt-MOST_BYTES.false _ _ c.in_err-count.ensures _ refl)

pub returns-in_err-count-clause-tells : goal.returns-in_err-count-clause-tells
returns-in_err-count-clause-tells c =
    rw (passed_on _ _ c.from_residual.ensures.1)
    (refusal-told _ _ c.if-bytes-gt-MOST_BYTES.false _ _ c.in_err-count.ensures _ refl)

pub returns-in_err-read_whole-clause-steps_after : goal.returns-in_err-read_whole-clause-steps_after
returns-in_err-read_whole-clause-steps_after c =
    not-refused _ _ c.if-bytes-gt-MOST_BYTES.false _ _ c.in_ok-count.ensures _ _ _ _ refl c.in_err-read_whole.ensures refl

pub returns-in_err-read_whole-clause-tells : goal.returns-in_err-read_whole-clause-tells
returns-in_err-read_whole-clause-tells c =
    not-refused _ _ c.if-bytes-gt-MOST_BYTES.false _ _ c.in_ok-count.ensures _ _ _ _ refl c.in_err-read_whole.ensures refl
