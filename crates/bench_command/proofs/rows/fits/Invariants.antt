-- The loop keeps that the rests fit exactly where the row and the line do.
use mathlib.Core.Path.{◌≡◌}
use lib.ListN.{drop}
use Rattle.bench_command.specs.Table.{fits}
use Rattle.bench_command.proofs.rows.fits.Given as goal

abbrev pub invariant-loop-i : goal.invariant-loop-i
invariant-loop-i l = fits (drop l.i l.row) (drop l.i l.line) ≡ fits l.row l.line
