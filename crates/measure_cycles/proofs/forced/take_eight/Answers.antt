-- A byte more is one fewer still to take.
use Rattle.std.proofs.Common.{◌≡◌, ℕ, suc, ◌+◌, ◌-◌, ◌<◌, bit_xor, ◌∙◌, arith}
use Rattle.machine.specs.declared.Machine.{Machine}
use Rattle.machine.specs.declared.Outcome.{Outcome}
use Rattle.machine.specs.Events.{byte_given}
use Rattle.measure_cycles.specs.Cycles.{given}
use Rattle.measure_cycles.proofs.forced.take_eight.Goals as goal

one_more : (m : Machine) (seen i : ℕ) (g : Outcome) → i < 8 → g ≡ byte_given m → given (8 - (i + 1)) g.machine (bit_xor seen g.value) ≡ given (8 - i) m seen
unfolding given
one_more m seen i g h e = let z : 8 - i ≡ suc (8 - (i + 1)) = omega arith in rw (e, z)

pub loop-preserved : goal.loop-preserved
loop-preserved c =
    let l = c.loop in one_more l.machine l.all l.counter c.byte-given.result c.loop-test.true c.byte-given.ensures ∙ l.invariant
