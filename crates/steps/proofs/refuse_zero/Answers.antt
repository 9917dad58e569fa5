-- `steps::refuse_zero` meets its contract: a refusal passes, and a value is tested against zero.
use mathlib.Core.Path.{ap}
use mir.Syntax.{w64}
use mir.Val.{SFits, of_z}
use Rattle.std.proofs.Common.{rules}
use Rattle.steps.specs.Step.{on_value, nonzero}
use Rattle.steps.proofs.Laws.{from_bits, nonzero-is}
use Rattle.steps.proofs.refuse_zero.Goals as goal

pub returns-in_err-a : goal.returns-in_err-a
unfolding nonzero on_value
returns-in_err-a c = search rules

pub returns-then-branch-eq0 : goal.returns-then-branch-eq0
unfolding nonzero on_value
returns-then-branch-eq0 c =
    let h : SFits w64 c.in_ok-a.field-0 = search rules in
    rw (c.in_ok-a.was, from_bits h c.if-branch-eq0.true)

pub returns : goal.returns
unfolding nonzero on_value
returns c =
    rw (c.in_ok-a.was, nonzero-is c.in_ok-a.field-0 (λ e. c.if-branch-eq0.false (ap (of_z w64) e)))
