-- The name, and then the bytes.
use Rattle.bench_page.proofs.Laws.{joined}
use Rattle.bench_row.specs.Row.{buffer}
use Rattle.bench_row.proofs.write_buffer.Goals as goal

pub returns : goal.returns
unfolding buffer
returns c = joined _ _ _ c.write_text.ensures c.write_bytes.ensures
