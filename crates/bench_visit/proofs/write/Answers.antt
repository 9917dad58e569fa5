-- The steps of the line, and then what is answered.
use Rattle.bench_visit.specs.Visits.{write}
use Rattle.bench_visit.proofs.write.Goals as goal

pub returns : goal.returns
unfolding write
returns c =
    rw (c.write_taken.ensures, c.lay_all-taken.ensures.same, ← c.line_list-list.ensures)
