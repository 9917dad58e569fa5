-- One byte of the form on, and at its end.
use Rattle.std.proofs.Common.{arith}
use Rattle.bench_row.proofs.Laws.{one_more, all}
use Rattle.bench_row.proofs.fill_marks.Goals as goal

pub loop-byte-preserved : goal.loop-byte-preserved
loop-byte-preserved g c = (
  omega (arith, c.after-k.ensures.1),
  one_more _ _ _ _ _ _ _ _ _ _ _ c.loop-byte-test.true c.number_at.ensures c.write.ensures c.after-k.ensures.0 c.loop-byte.invariant.1,
)

pub returns : goal.returns
returns g c = all _ _ _ _ _ _ _ _ c.loop-byte-test.false c.loop-byte.invariant.1
