-- Long division as the definition goes.
use native.Mathlib.Nat.{mod-lt}
use native.Mathlib.Omega.{arith}
use Rattle.visit_figures.proofs.Laws.{ended, stopped, onward}
use Rattle.visit_figures.proofs.write_part.Goals as goal

pub loop-done-preserved : goal.loop-done-preserved
loop-done-preserved c = (
  mod-lt _ (omega arith),
  onward 10 _ _ _ _ _ c.loop-done.invariant.1 c.loop-done-test.true c.if-left-eq0.false c.digit.ensures c.write_byte.ensures,
)

pub returns-then-left-eq0 : goal.returns-then-left-eq0
returns-then-left-eq0 c = stopped 10 _ _ _ _ _ c.loop-done.invariant.1 c.loop-done-test.true c.if-left-eq0.true

pub returns-after-loop-done : goal.returns-after-loop-done
returns-after-loop-done c = ended 10 _ _ _ _ _ c.loop-done.invariant.1 c.loop-done-test.false
