-- Where all three roads are taken, what they give is the reading's answer.
use Prim.Native.Nat.{ℕ}
use mathlib.Core.List.{List}
use mathlib.Core.Path.{sym, ap, ◌∙◌}
use lib.IntN.{ℤ}
use lib.ListN.{length}
use borrow.Author.Tests.{le-leb}
use Rattle.plain_reading.proofs.Taken.{of-counts}
use Rattle.onegrish_reading.specs.Plain.{done_with}
use Rattle.onegrish_reading.proofs.plain.hand_counts.Goals as goal

abbrev answered_done : ℕ × List ℕ × List ℤ → ℕ × List ℕ × List ℤ
answered_done q = done_with (q.1, q.2)

pub returns : goal.returns
returns c =
    let three = le-leb 3 (length c.args.numbers.now) c.requires.0 in
    let four = le-leb 4 (length c.args.values.now) c.requires.1 in
    let whole = c.answer.ensures ∙ of-counts c.args.words c.args.counts c.in-Some.plain (sym c.read_counts.ensures ∙ c.in-Some.is) in
    ap answered_done (rw (whole, three, four) at c.hand_reading.ensures)
