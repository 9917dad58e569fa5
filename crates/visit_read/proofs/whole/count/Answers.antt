-- The part after the list's end is empty, and so is what is put back.
use Rattle.visit_read.proofs.SameWhole.{count-is}
use Rattle.std.proofs.Common.{rules}
use Rattle.visit_read.proofs.whole.count.Goals as goal

pub returns : goal.returns
returns c =
    count-is c.args.bytes.now c.args.list.now _ _ c.read_whole.ensures (search rules)
