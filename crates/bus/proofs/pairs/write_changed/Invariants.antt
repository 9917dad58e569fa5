-- The loop keeps that the first k pairs are the changed ones and the other bytes are as they were.
use Rattle.std.proofs.Common.{◌*◌}
use Rattle.bus.proofs.FlatPairs.{Changing}
use Rattle.bus.proofs.pairs.write_changed.Given as goal

abbrev pub invariant-loop-k : goal.invariant-loop-k
invariant-loop-k l = Changing l.change l.pairs l.initial.lent l.lent (2 * l.k)
