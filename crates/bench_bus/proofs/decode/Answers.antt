-- The front of the filled buffer that is of the length asked: what the bus library leaves in it, written down.
use Rattle.bench_lent.specs.Lent.{lent_of}
use Rattle.bench_lent.proofs.Front.{within-whole}
use Rattle.bench_lent.proofs.Back.{Back, back}
use Rattle.bench_bus.proofs.decode.Goals as goal

pub returns : goal.returns
unfolding lent_of
returns c =
    let left : Back c.within-n.result c.filled-lent.result c.decode_write-decoded.new.lent =
    back _ _ _ (within-whole _ c.filled-lent.result c.within-n.ensures.1 c.filled-lent.ensures.1) c.decode_write-decoded.auto.lent in
    rw (c.write_decoded.ensures, left.front, c.decode_write-decoded.ensures, c.within-n.ensures.0, c.filled-lent.ensures.0)
