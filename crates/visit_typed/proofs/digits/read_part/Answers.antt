-- The loop keeps that the number so far, with the decimals that are left, is what all of them give.
use Rattle.std.proofs.Common.{◌≡◌, arith}
use Rattle.visit_typed.proofs.Loops.{part-on, part_end}
use Rattle.visit_typed.specs.Typed.{past, part}
use Rattle.visit_typed.proofs.digits.read_part.Goals as goal
use Rattle.visit_typed.proofs.digits.read_part.Goals.{then-is_some, else-is_some}

pub loop-done-preserved : goal.loop-done-preserved
loop-done-preserved c =
    let next : c.if-is_some.end ≡ past c.digit_at-d.result c.loop-done.end =
    elim c.if-is_some.branch [ then-is_some w ↦ grind arith | else-is_some w ↦ grind arith ] in (
      c.with_digit-value.ensures.bounded c.loop-done.invariant.0,
      part-on _ _ _ _ _ _ c.loop-done.invariant.1 c.loop-done-test.true c.digit_at-d.ensures.value c.unwrap_or.ensures
          c.with_digit-value.ensures.value next,
    )

pub returns-clause-value : goal.returns-clause-value
unfolding part
returns-clause-value c =
    rw (← part_end _ _ _ _ _ _ c.loop-done.invariant.1 c.loop-done-test.false) c.then_some.ensures
