-- The walk of the definition, turn by turn.
use Rattle.std.proofs.Common.{ℕ, ◌≡◌, ◌-◌}
use Rattle.visit_date.specs.Dates.{Counts, walk}
use Rattle.visit_date.proofs.walk.Given as goal

abbrev pub invariant-loop-number : goal.invariant-loop-number
invariant-loop-number g l =
    (f : ℕ → ℕ) → Counts (goal.F-post g l.size_of) f → walk f (l.last - l.number) l.number l.left ≡ walk f (l.last - l.first) l.first l.days
