-- Where the road is tried, what the counts make is the whole answer.
use mathlib.Core.Path.{sym, ◌∙◌}
use lib.ListN.{length}
use Rattle.onegrish_reading.proofs.Tried.{tried-is, whole_is}
use Rattle.onegrish_reading.proofs.plain.hand.Goals as goal

pub returns : goal.returns
returns c =
    let a = c.args in
    let r =
    tried-is (length a.bytes.now) a.t a.p a.h (length a.numbers.now) (length a.values.now)
    (sym c.is_tried.ensures ∙ c.if-not-is_tried.false) in
    let e = whole_is c.in-Ok.words a.bytes.now a.t a.p a.h a.numbers.now a.values.now r in
    rw (c.in-Ok.is, e) (rw c.count.ensures at c.hand_counts.ensures)
