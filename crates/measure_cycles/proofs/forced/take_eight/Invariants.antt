-- The bytes taken and those still to take are eight together.
use Rattle.std.proofs.Common.{◌≡◌, ◌-◌}
use Rattle.measure_cycles.specs.Cycles.{given}
use Rattle.measure_cycles.proofs.forced.take_eight.Given as goal

abbrev pub invariant-loop : goal.invariant-loop
invariant-loop l = given (8 - l.counter) l.machine l.all ≡ given 8 l.initial.machine l.initial.all
