-- The loop keeps that the bytes read lie within the buffer; what is left of it is the measure.
use Rattle.std.proofs.Common.{length, ◌-◌, ◌≤◌}
use Rattle.visit_input.proofs.read_all.Given as goal

abbrev pub invariant-loop-done : goal.invariant-loop-done
invariant-loop-done g l = l.done ≤ length l.buffer

abbrev pub decreases-loop-done : goal.decreases-loop-done
decreases-loop-done g l = length l.initial.buffer - l.done
