use Rattle.visit_write.proofs.Counting.{Counting}
use Rattle.visit_write.proofs.sizes.total.Given as goal

abbrev pub invariant-loop-k : goal.invariant-loop-k
invariant-loop-k l = Counting l.steps l.bytes l.k
