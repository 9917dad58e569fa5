-- The loop keeps that what is left of the form, filled and written on the page as it is, makes the page that the whole makes.
use Rattle.std.proofs.Common.{◌≡◌, ◌≤◌, drop}
use Rattle.bench_page.specs.Page.{◌▹◌}
use Rattle.bench_row.specs.Row.{filled_from}
use Rattle.bench_row.proofs.fill_marks.Given as goal

abbrev pub invariant-loop-byte : goal.invariant-loop-byte
invariant-loop-byte g l =
    (l.k ≤ l.byte-index)
    × (l.page ▹ filled_from g.N.Marked.shown l.past (drop l.byte-index l.form) l.numbers l.k
    ≡ l.fn.page ▹ filled_from g.N.Marked.shown l.past l.form l.numbers 0)
