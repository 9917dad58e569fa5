-- The front of the filled buffer that is of the length asked: what the writer leaves in it, shown.
use Rattle.bench_lent.specs.Lent.{lent_of}
use Rattle.bench_lent.proofs.Front.{within-whole}
use Rattle.bench_lent.proofs.Back.{back}
use Rattle.bench_visit.proofs.write_record.Goals as goal

pub returns : goal.returns
unfolding lent_of
returns c =
    let left = back _ _ _ (within-whole _ c.filled-lent.result c.within-n.ensures.1 c.filled-lent.ensures.1) c.write-written.auto.out in
    rw (c.write_lent.ensures, left.front, c.write-written.ensures.out_after, c.within-n.ensures.0, c.filled-lent.ensures.0)
