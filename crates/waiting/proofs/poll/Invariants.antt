-- The loop keeps that the first ready place among the bytes polled is as many places on as polls were made.
use Rattle.std.proofs.Common.{◌-◌}
use Rattle.waiting.proofs.Polls.{Polling}
use Rattle.waiting.proofs.poll.Given as goal

abbrev pub invariant-loop-polls : goal.invariant-loop-polls
invariant-loop-polls l = Polling l.status l.allowance l.limit l.polls

abbrev pub decreases-loop-polls : goal.decreases-loop-polls
decreases-loop-polls l = l.limit - l.polls
