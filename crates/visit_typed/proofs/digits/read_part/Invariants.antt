-- The loop keeps that the number so far, with the decimals that are left, is what all of them give.
use Rattle.std.proofs.Common.{◌≡◌, ◌<◌, ◌-◌}
use Rattle.visit_typed.specs.Typed.{part_on}
use Rattle.visit_typed.proofs.digits.read_part.Given as goal

abbrev pub invariant-loop-done : goal.invariant-loop-done
invariant-loop-done l =
    (l.value < 100000000000) × (part_on l.text (l.places - l._done) l.value l.end ≡ part_on l.text l.places 0 l.from)
