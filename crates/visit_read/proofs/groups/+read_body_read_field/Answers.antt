-- A body goes on by what its first field was, and its walk by what each field was; a field goes by its front.
use Rattle.std.proofs.Common.{rules, ◌≡◌, ◌-◌, ◌∙◌, sym, arith}
use Rattle.visit_read.specs.Groups.{field_at, walk_at, body_at}
use Rattle.visit_read.proofs.SlotCases.{moved, slot-by-ends}
use Rattle.visit_read.proofs.GroupCases.{group-deeper, field_is, body-walks, walk-stop, walk_next}
use Rattle.visit_read.proofs.groups.+read_body_read_field.Goals as goal

-- ---- a body

pub read_body-returns-in_err-next-clause-list_after : goal.read_body-returns-in_err-next-clause-list_after
unfolding body_at
read_body-returns-in_err-next-clause-list_after t c = search rules

pub read_body-loop-i-preserved : goal.read_body-loop-i-preserved
read_body-loop-i-preserved t c =
    let a = c.args in
    let f = field_at a.levels a.bytes.now a.end in
    let left = c.loop-i.invariant.walks in
    let x = rw c.in-Group-2.is at c.in_ok-next-in-Group.ensures.passes in
    let e : walk_at f (left.0 - 1) a.end c.in-Group-2.next c.in-Group-2.filled c.read_field-in-loop-i.new.list ≡ walk_at f left.0 a.end c.loop-i.i c.loop-i.n c.loop-i.list =
    rw (walk_next f a.end c.loop-i.i c.loop-i.n c.loop-i.list left.0 c.loop-i-test.true left.1, ← c.in_ok-next-in-Group.ensures.list_after, c.in-Group-2.is) in
    record { below_end = x.1.0; laid_less = omega arith; walks = (left.0 - 1, omega arith, e ∙ left.2) }

pub read_body-returns-in_err-next-in-Group-clause-list_after : goal.read_body-returns-in_err-next-in-Group-clause-list_after
read_body-returns-in_err-next-in-Group-clause-list_after t c =
    let a = c.args in
    let f = field_at a.levels a.bytes.now a.end in
    let left = c.loop-i.invariant.walks in
    let e : (c.from_residual-in_err-next-in-Group.result, c.read_field-in-loop-i.new.list) ≡ walk_at f left.0 a.end c.loop-i.i c.loop-i.n c.loop-i.list =
    rw (walk_next f a.end c.loop-i.i c.loop-i.n c.loop-i.list left.0 c.loop-i-test.true left.1) (search rules) in
    e ∙ left.2 ∙ sym (body-walks f a.bytes.now a.end _ _ _ _ _ _ _ c.in_ok-next.ensures.list_after c.in-Group.is)

pub read_body-returns-in-Told-2-clause-list_after : goal.read_body-returns-in-Told-2-clause-list_after
read_body-returns-in-Told-2-clause-list_after t c =
    let a = c.args in
    let f = field_at a.levels a.bytes.now a.end in
    let left = c.loop-i.invariant.walks in
    let e = walk_next f a.end c.loop-i.i c.loop-i.n c.loop-i.list left.0 c.loop-i-test.true left.1 in
    (rw (e, ← c.in_ok-next-in-Group.ensures.list_after, c.in-Told-2.is)) ∙ left.2 ∙ sym (body-walks f a.bytes.now a.end _ _ _ _ _ _ _ c.in_ok-next.ensures.list_after c.in-Group.is)

pub read_body-returns-after-loop-i-clause-list_after : goal.read_body-returns-after-loop-i-clause-list_after
read_body-returns-after-loop-i-clause-list_after t c =
    let a = c.args in
    let f = field_at a.levels a.bytes.now a.end in
    let left = c.loop-i.invariant.walks in
    sym (walk-stop f a.end _ _ _ left.0 c.loop-i-test.false) ∙ left.2 ∙ sym (body-walks f a.bytes.now a.end _ _ _ _ _ _ _ c.in_ok-next.ensures.list_after c.in-Group.is)

pub read_body-returns-in-Told-clause-list_after : goal.read_body-returns-in-Told-clause-list_after
unfolding body_at
read_body-returns-in-Told-clause-list_after t c = search rules

pub read_body-returns-in-Told-clause-ends : goal.read_body-returns-in-Told-clause-ends
read_body-returns-in-Told-clause-ends t c =
    let x = rw c.in-Told.is at c.in_ok-next.ensures.passes in
    slot-by-ends _ _ _ _ _ _ _ _ c.slot_by.ensures (omega arith) x.1

-- ---- a field

pub read_field-returns-in_err-next-clause-list_after : goal.read_field-returns-in_err-next-clause-list_after
read_field-returns-in_err-next-clause-list_after t c = rw field_is (search rules)

pub read_field-returns-then-levels-eq0-clause-list_after : goal.read_field-returns-then-levels-eq0-clause-list_after
read_field-returns-then-levels-eq0-clause-list_after t c = rw (field_is, c.if-levels-eq0.true) (search rules)

pub read_field-read_body-requires : goal.read_field-read_body-requires
read_field-read_body-requires t c =
    let m = rw c.in-Group.is at (moved _ _ _ _ _ c.in_ok-next.ensures) in
    (omega arith, omega arith)

pub read_field-returns-in_err-filled-in-Group-clause-list_after : goal.read_field-returns-in_err-filled-in-Group-clause-list_after
read_field-returns-in_err-filled-in-Group-clause-list_after t c =
    rw (field_is, ← c.in_ok-next.ensures, c.in-Group.is, group-deeper _ _ _ _ _ _ c.if-levels-eq0.false) (search rules)

pub read_field-returns-in_ok-filled-in-Group-clause-list_after : goal.read_field-returns-in_ok-filled-in-Group-clause-list_after
read_field-returns-in_ok-filled-in-Group-clause-list_after t c =
    rw (field_is, ← c.in_ok-next.ensures, c.in-Group.is, group-deeper _ _ _ _ _ _ c.if-levels-eq0.false) (search rules)

pub read_field-returns-in_ok-filled-in-Group-clause-passes : goal.read_field-returns-in_ok-filled-in-Group-clause-passes
read_field-returns-in_ok-filled-in-Group-clause-passes t c =
    let m = rw c.in-Group.is at (moved _ _ _ _ _ c.in_ok-next.ensures) in
    let x = c.in_ok-filled-in-Group.ensures.ends in
    omega arith

pub read_field-returns-in-Told-clause-list_after : goal.read_field-returns-in-Told-clause-list_after
read_field-returns-in-Told-clause-list_after t c = rw field_is (search rules)

pub read_field-returns-in-Told-clause-passes : goal.read_field-returns-in-Told-clause-passes
read_field-returns-in-Told-clause-passes t c = rw c.in-Told.is at (moved _ _ _ _ _ c.in_ok-next.ensures)
