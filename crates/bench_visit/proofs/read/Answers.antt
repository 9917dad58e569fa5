-- The front of the list that is of the length asked: what the reader leaves in it, shown.
use Rattle.std.proofs.Common.{ℕ, ◌*◌, ◌≤◌, ◌≡◌, List, length, arith}
use Rattle.bench_lent.proofs.Back.{back}
use Rattle.bench_visit.specs.Visits.{lent_steps}
use Rattle.bench_visit.proofs.read.Goals as goal

fits : (n : ℕ) (whole : List ℕ) → n ≤ 256 → 2048 ≡ length whole → n * 8 ≤ length whole
fits n whole h e = omega (arith, h, e)

pub returns : goal.returns
unfolding lent_steps
returns c =
    let left = back _ _ _ (fits _ c.lent_list-list.result c.within-n.ensures.1 c.lent_list-list.ensures.1) c.read_record-read.auto.steps in
    rw (c.write_read.ensures, left.front, c.read_record-read.ensures.steps_after, c.within-n.ensures.0, c.lent_list-list.ensures.0)
