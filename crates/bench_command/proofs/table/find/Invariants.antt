-- The loop keeps that trying the rows still to come makes what trying all does.
use Rattle.std.proofs.Common.{◌≡◌, false, drop}
use Rattle.bench_command.specs.Words as words
use Rattle.bench_command.specs.Table.{commands, tried, as_rows}
use Rattle.bench_command.proofs.table.find.Given as goal

abbrev pub invariant-loop-row : goal.invariant-loop-row
invariant-loop-row l =
    tried (as_rows (drop l.row-index l.row-items)) l.line l.words l.named l.lent ≡ tried commands l.line (words.count l.line) false l.initial.lent
