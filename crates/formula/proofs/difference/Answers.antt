-- `formula::difference` meets its contract: its one call is the step.
use mir.Facts.{to_z-of_z}
use Rattle.steps.specs.Step.{subtracted}
use Rattle.steps.specs.Work.{run}
use Rattle.formula.proofs.Laws.{number-is}
use Rattle.formula.proofs.difference.Goals as goal

pub returns : goal.returns
unfolding run subtracted
returns c =
    let fine = number-is c.number.ensures in
    let start = number-is c.number-2.ensures in
    rw (c.subtract.ensures, fine, start, to_z-of_z c.ranges.fine)
