-- `steps::operation::floor` meets its contract: the machine's shift rounds down, and from 63 on every amount gives what 63 gives.
use Prim.Native.Nat.{◌^◌}
use mathlib.Core.Path.{ap, ◌∙◌}
use Rattle.steps.specs.Step.{kept}
use Rattle.steps.proofs.Laws.{back, shift_fits, floor-min}
use Rattle.steps.proofs.operation.floor.Goals as goal

pub returns : goal.returns
returns c =
    (rw (back c.ranges.x, back (shift_fits (2 ^ c.min.result) c.ranges.x), c.min.ensures) at c.keep.ensures)
    ∙ ap (kept c.args.width) (floor-min c.args.x c.args.amount c.ranges.x)
