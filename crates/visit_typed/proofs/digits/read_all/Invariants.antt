-- The loop keeps that the number so far, going on with what is left of the text, is what the whole text gives.
use Rattle.std.proofs.Common.{◌≡◌, ◌<◌, drop}
use Rattle.visit_typed.specs.Typed.{digits_on}
use Rattle.visit_typed.proofs.digits.read_all.Given as goal

abbrev pub invariant-loop-end : goal.invariant-loop-end
invariant-loop-end l = (l.value < 100000000000) × (digits_on l.value (drop l.end l.text) l.end ≡ digits_on 0 l.text 0)
