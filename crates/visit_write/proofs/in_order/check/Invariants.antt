use Rattle.visit_write.proofs.Checking.{Checking}
use Rattle.visit_write.proofs.in_order.check.Given as goal

abbrev pub invariant-loop-k : goal.invariant-loop-k
invariant-loop-k l = Checking l.steps l.k l.stage
