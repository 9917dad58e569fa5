-- The walk of the definition, turn by turn, whatever the closure counts.
use native.Mathlib.Omega.{arith}
use Rattle.visit_date.proofs.Walks.{stopped, onward, ended}
use Rattle.visit_date.proofs.walk.Goals as goal

pub returns-then-left-size : goal.returns-then-left-size
returns-then-left-size g c =
    λ f m. stopped f _ _ _ _ (c.loop-number.invariant f m) _ (m _ _ (omega arith) c.size_of-size.ensures) c.loop-number-test.true c.if-left-size.true

pub loop-number-preserved : goal.loop-number-preserved
loop-number-preserved g c =
    λ f m. onward f _ _ _ _ (c.loop-number.invariant f m) _ (m _ _ (omega arith) c.size_of-size.ensures) c.loop-number-test.true c.if-left-size.false

pub returns : goal.returns
returns g c = λ f m. ended f _ _ _ _ (c.loop-number.invariant f m) (omega arith)
