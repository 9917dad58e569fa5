-- The number is the measure.
use Rattle.bench_page.proofs.Page.+write_decimal.Given as goal

abbrev pub decreases-write_decimal : goal.decreases-write_decimal
decreases-write_decimal l = l.n
