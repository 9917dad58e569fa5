-- The cycles ridden and those still to ride are all of them together.
use Rattle.std.proofs.Common.{◌≡◌, ◌-◌}
use Rattle.measure_cycles.specs.Cycles.{cycled}
use Rattle.measure_cycles.proofs.speed_cycles.Given as goal

abbrev pub invariant-loop : goal.invariant-loop
invariant-loop l =
    cycled (l.fn.n - l.counter) l.ridden.machine l.ridden.seen l.fn.f4 l.fn.t l.fn.p l.fn.h l.lent
    ≡ cycled l.fn.n l.initial.ridden.machine l.initial.ridden.seen l.fn.f4 l.fn.t l.fn.p l.fn.h l.initial.lent
