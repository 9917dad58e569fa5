use Rattle.visit_write.proofs.Counting.{counting-on, too_many, counting-end}
use Rattle.visit_write.proofs.sizes.total.Goals as goal

pub returns-then-bytes-gt-MOST_BYTES : goal.returns-then-bytes-gt-MOST_BYTES
returns-then-bytes-gt-MOST_BYTES c =
    too_many _ _ _ c.loop-k.invariant _ _ c.loop-k-test.true c.step_at.ensures c.size-bytes.ensures c.if-bytes-gt-MOST_BYTES.true

pub loop-k-preserved : goal.loop-k-preserved
loop-k-preserved c =
    counting-on _ _ _ c.loop-k.invariant _ _ c.loop-k-test.true c.step_at.ensures c.size-bytes.ensures c.if-bytes-gt-MOST_BYTES.false

pub returns : goal.returns
returns c = counting-end _ _ _ c.loop-k.invariant c.loop-k-test.false
