-- The row that the line is of, or the next.
use Rattle.std.proofs.Common.{arith, ◌≡◌, ◌<◌, ◌≤◌, length, sym, ◌∙◌}
use Rattle.bench_command.proofs.Trying.{asks, goes_on, over}
use Rattle.bench_command.proofs.table.find.Goals as goal

pub loop-row-init : goal.loop-row-init
loop-row-init c = rw (c.table-row-items.ensures.rows, c.count-words.ensures)

pub returns-then-is_of : goal.returns-then-is_of
returns-then-is_of c =
    let e : length c.table-row-items.result.now ≡ 31 = c.table-row-items.ensures.many in
    let h : c.loop-row.row-index < length c.table-row-items.result.now = omega arith in
    c.ask.ensures ∙ asks _ _ _ _ _ _ _ h (sym c.if-is_of.true ∙ c.is_of.ensures) ∙ c.loop-row.invariant

pub loop-row-preserved : goal.loop-row-preserved
loop-row-preserved c =
    let e : length c.table-row-items.result.now ≡ 31 = c.table-row-items.ensures.many in
    let h : c.loop-row.row-index < length c.table-row-items.result.now = omega arith in
    rw c.fits-named.ensures (goes_on _ _ _ _ _ _ _ h (sym c.if-is_of.false ∙ c.is_of.ensures) ∙ c.loop-row.invariant)

pub returns : goal.returns
returns c =
    let e : length c.table-row-items.result.now ≡ 31 = c.table-row-items.ensures.many in
    let h : length c.table-row-items.result.now ≤ c.loop-row.row-index = omega arith in
    rw c.refuse.ensures (over _ _ _ _ _ _ h ∙ c.loop-row.invariant)
