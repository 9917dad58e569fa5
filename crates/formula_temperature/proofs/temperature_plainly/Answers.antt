-- `temperature::temperature_plainly` meets its contract: the guard decides, and near T1 the plain road gives the answer.
use mathlib.Core.Path.{sym}
use Rattle.formula.specs.Plain.{temperature_plainly}
use Rattle.formula_temperature.proofs.temperature_plainly.Goals as goal

pub returns-then-is_near : goal.returns-then-is_near
unfolding temperature_plainly
returns-then-is_near c = rw (sym c.is_near.ensures, c.if-is_near.true, c.temperature.ensures)

pub returns : goal.returns
unfolding temperature_plainly
returns c = rw (sym c.is_near.ensures, c.if-is_near.false)
