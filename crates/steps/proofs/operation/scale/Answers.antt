-- `steps::operation::scale` meets its contract: below 63 it is a product, and from there on the laws of far shifts answer.
use mathlib.Core.Path.{ap}
use mir.Syntax.{w64}
use mir.Val.{of_z}
use Rattle.steps.proofs.Laws.{back, power, scaled-far}
use Rattle.steps.proofs.operation.scale.Goals as goal
use Rattle.steps.proofs.operation.scale.Goals.{Else-amount-gt63}

pub returns-then-amount-lt63 : goal.returns-then-amount-lt63
returns-then-amount-lt63 c =
    rw (back c.ranges.x, power c.args.amount c.if-amount-lt63.true) at c.product.ensures

pub returns-then-amount-gt63 : goal.returns-then-amount-gt63
returns-then-amount-gt63 c =
    scaled-far c.args.width c.args.x c.args.amount (λ e. c.if-x-eq0.false (ap (of_z w64) e)) c.if-amount-gt63.true
