-- `humidity::humidity` meets its contract: what the plain road gives is the answer, and else the checked road answers.
use mathlib.Core.Path.{sym, ap}
use mir.Facts.{to_z-of_z}
use Rattle.formula.specs.Answers.{channel_answer}
use Rattle.formula.proofs.Taken.{taken-channel}
use Rattle.formula_humidity.proofs.humidity.Goals as goal

pub returns-in-Some : goal.returns-in-Some
returns-in-Some c =
    ap channel_answer (rw (to_z-of_z c.ranges.fine) at (sym (taken-channel _ _ _ c.in-Some.plain c.humidity_plainly.ensures c.in-Some.is)))
