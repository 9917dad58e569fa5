use Rattle.visit_write.proofs.Cases.{too_long, no_room, all-counted, all-written}
use Rattle.visit_write.proofs.write_checked.Goals as goal

pub returns-then-bytes-gt-MOST_BYTES-clause-out_after : goal.returns-then-bytes-gt-MOST_BYTES-clause-out_after
returns-then-bytes-gt-MOST_BYTES-clause-out_after c = too_long _ _ _ c.requires c.total-bytes.ensures c.if-bytes-gt-MOST_BYTES.true

pub returns-then-out-bytes-clause-out_after : goal.returns-then-out-bytes-clause-out_after
returns-then-out-bytes-clause-out_after c =
    no_room _ _ _ c.requires c.total-bytes.ensures c.if-bytes-gt-MOST_BYTES.false c.if-out-bytes.true

pub fill-requires : goal.fill-requires
fill-requires c =
    let short = c.if-bytes-gt-MOST_BYTES.false in
    (c.requires, (all-counted _ _ c.requires c.total-bytes.ensures short, (short, c.if-out-bytes.false)))

pub returns-clause-out_after : goal.returns-clause-out_after
returns-clause-out_after c =
    all-written _ _ _ c.requires c.total-bytes.ensures _ c.if-bytes-gt-MOST_BYTES.false c.if-out-bytes.false c.fill.ensures
