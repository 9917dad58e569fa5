-- The loop keeps that the steps of the words still to come, laid after those that stand in the list, make what all make.
use Rattle.std.proofs.Common.{◌-◌, ◌*◌, ◌/◌, ◌≤◌, ◌≡◌, [], length, take, drop}
use Rattle.bench_visit.specs.Line.{following, laid}
use Rattle.bench_visit.proofs.steps.lay_all.Given as goal

abbrev pub invariant-loop-at : goal.invariant-loop-at
invariant-loop-at l = record {
  long : length l.list ≡ length l.initial.list;
  within : l.k * 8 ≤ length l.list;
  same : laid (length l.initial.list / 8) l.k (take (l.k * 8) l.list) (following (drop l.at l.line))
      ≡ laid (length l.initial.list / 8) 0 [] (following (drop l.from l.line));
}

abbrev pub decreases-loop-at : goal.decreases-loop-at
decreases-loop-at l = length l.line - l.at
