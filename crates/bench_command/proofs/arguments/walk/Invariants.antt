-- The loop keeps that the rest of the row, walked on from here, comes to where the whole row does.
use Rattle.std.proofs.Common.{◌≡◌, drop, Ok}
use Rattle.bench_command.specs.Arguments.{start, walked}
use Rattle.bench_command.proofs.arguments.walk.Given as goal

abbrev pub invariant-loop-character : goal.invariant-loop-character
invariant-loop-character l =
    walked (drop l.character-index l.row) l.line (Ok l.w, l.lent) ≡ walked l.row l.line (Ok start, l.initial.lent)
