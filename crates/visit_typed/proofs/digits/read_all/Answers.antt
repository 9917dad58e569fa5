-- The loop keeps that the number so far, going on with what is left of the text, is what the whole text gives.
use native.Mathlib.Omega.{arith}
use Rattle.visit_typed.proofs.Loops.{digits-stop, digits-on, digits-end}
use Rattle.visit_typed.proofs.digits.read_all.Goals as goal

pub returns-in_default-clause-value : goal.returns-in_default-clause-value
returns-in_default-clause-value c =
    digits-stop _ _ _ _ c.loop-end.invariant.1 _ c.loop-end-test.true c.digit.ensures.value c.in_default.is

pub loop-end-preserved : goal.loop-end-preserved
loop-end-preserved c = (
  c.with_digit-value.ensures.bounded c.loop-end.invariant.0,
  digits-on _ _ _ _ c.loop-end.invariant.1 _ c.loop-end-test.true c.digit.ensures.value _ c.in-Some.is c.with_digit-value.ensures.value,
)

pub returns-clause-value : goal.returns-clause-value
returns-clause-value c = digits-end c.args.text.now _ c.loop-end.end _ c.loop-end.invariant.1 (omega arith)
