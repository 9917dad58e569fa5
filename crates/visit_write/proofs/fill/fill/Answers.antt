use Rattle.visit_write.proofs.Filling.{filling-start, filling_step}
use Rattle.visit_write.proofs.fill.fill.Goals as goal

pub loop-k-init : goal.loop-k-init
loop-k-init c = filling-start _ _ _ c.requires.0 c.requires.1.0 c.requires.1.1.0 c.requires.1.1.1

pub loop-k-preserved : goal.loop-k-preserved
loop-k-preserved c =
    filling_step _ _ _ c.requires.0 c.requires.1.0 c.requires.1.1.0 c.requires.1.1.1 _ _ _ _ _ _ c.loop-k.invariant c.loop-k-test.true
    c.step_at.ensures c.step_back-m.ensures
