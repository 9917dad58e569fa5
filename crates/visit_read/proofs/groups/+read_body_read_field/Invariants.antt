-- A field asks for a body with one level less, and a body for fields with as many levels: the measure is twice the levels, and one more for a body.
-- The loop over a body's groups keeps that what is left of the walk, from what was laid down so far, is what the whole walk makes of the list.
use Rattle.std.proofs.Common.{ℕ, ◌+◌, ◌-◌, ◌*◌, ◌≤◌, ◌≡◌}
use Rattle.visit_read.specs.Groups.{field_at, walk_at}
use Rattle.visit_read.proofs.groups.+read_body_read_field.Given as goal

abbrev pub decreases-read_body : goal.decreases-read_body
decreases-read_body l = 2 * l.levels + 1

abbrev pub decreases-read_field : goal.decreases-read_field
decreases-read_field l = 2 * l.levels

abbrev pub invariant-read_body-loop-i : goal.invariant-read_body-loop-i
invariant-read_body-loop-i l = record {
  below_end : l.i ≤ l.end;
  laid_less : l.n + l.at ≤ l.k + l.i;
  walks : (fuel : ℕ) × (l.end - l.i ≤ fuel) × (walk_at (field_at l.levels l.bytes l.end) fuel l.end l.i l.n l.list
      ≡ walk_at (field_at l.levels l.bytes l.end) (l.end - l.next) l.end l.next l.filled l.initial.list);
}

abbrev pub decreases-read_body-loop-i : goal.decreases-read_body-loop-i
decreases-read_body-loop-i l = l.end - l.i
