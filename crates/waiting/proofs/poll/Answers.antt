-- Each end, and each turn, by what polling keeps.
use mathlib.Core.Path.{sym, ◌∙◌}
use Rattle.waiting.proofs.Polls.{at-end, at_ready, at_other}
use Rattle.waiting.proofs.poll.Goals as goal

pub returns-then-limit-polls : goal.returns-then-limit-polls
returns-then-limit-polls c = at-end _ _ _ _ c.loop-polls.invariant c.if-limit-polls.true

pub loop-polls-preserved : goal.loop-polls-preserved
loop-polls-preserved c =
    at_other _ _ _ _ c.loop-polls.invariant c.if-limit-polls.false (sym c.is_ready.ensures ∙ c.if-is_ready.false)

pub returns : goal.returns
returns c =
    at_ready _ _ _ _ c.loop-polls.invariant c.if-limit-polls.false (sym c.is_ready.ensures ∙ c.if-is_ready.true)
