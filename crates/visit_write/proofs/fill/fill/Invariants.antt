use Rattle.visit_write.proofs.Filling.{Filling}
use Rattle.visit_write.proofs.fill.fill.Given as goal

abbrev pub invariant-loop-k : goal.invariant-loop-k
invariant-loop-k l = Filling l.steps l.initial.out l.out l.total l.k l.m
