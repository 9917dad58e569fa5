use Rattle.std.proofs.Common.{arith}
use Rattle.bench_visit.proofs.Laying.{room, stopped, onward, ended}
use Rattle.bench_visit.proofs.steps.lay_all.Goals as goal

pub returns-then-not-lay : goal.returns-then-not-lay
returns-then-not-lay c =
    let i = c.loop-at.invariant in
    record {
      same =
          stopped _ _ _ _ _ (rw c.read.ensures at c.lay.ensures) _ c.args.list.now _ i.long c.loop-at-test.true (rw c.rest.ensures at c.up_to-word.ensures) _
          i.same c.if-not-lay.true;
      within = omega arith;
    }

pub loop-at-preserved : goal.loop-at-preserved
loop-at-preserved c =
    let i = c.loop-at.invariant in
    let e = rw c.read.ensures at c.lay.ensures in
    record {
      long = omega (arith, c.lay.auto.list, i.long);
      within = omega (arith, c.lay.auto.list, room _ _ _ _ _ e c.if-not-lay.false);
      same =
          onward _ _ _ _ _ e _ c.args.list.now _ i.long c.loop-at-test.true (rw c.rest.ensures at c.up_to-word.ensures) _ i.same i.within
          c.if-not-lay.false;
    }

pub returns : goal.returns
returns c = record {
  same = ended _ _ _ _ _ _ c.loop-at-test.false c.loop-at.invariant.same;
  within = c.loop-at.invariant.within;
}
