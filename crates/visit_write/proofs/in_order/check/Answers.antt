use Rattle.std.proofs.Common.{◌∙◌, arith}
use Rattle.visit_write.proofs.Checking.{checking-on, checking-halt, checking-end}
use Rattle.visit_write.proofs.in_order.check.Goals as goal

pub returns-in-Err : goal.returns-in-Err
returns-in-Err c = checking-halt _ _ _ c.loop-k.invariant _ _ c.loop-k-test.true c.step_at.ensures c.in-Err.ensures

pub loop-k-preserved : goal.loop-k-preserved
loop-k-preserved c = checking-on _ _ _ c.loop-k.invariant _ _ c.loop-k-test.true c.step_at.ensures c.in-Ok.ensures

pub returns : goal.returns
returns c = c.at_end.ensures ∙ checking-end _ _ _ c.loop-k.invariant (omega arith)
