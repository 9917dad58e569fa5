-- `temperature::temperature` meets its contract: what the plain road gives is the answer, and else the checked road answers.
use mathlib.Core.Path.{sym, ap}
use Rattle.formula.specs.Answers.{temperature_answer}
use Rattle.formula.proofs.Taken.{taken-temperature}
use Rattle.formula_temperature.proofs.temperature.Goals as goal

pub returns-in-Some : goal.returns-in-Some
returns-in-Some c =
    ap temperature_answer (sym (taken-temperature _ _ _ c.in-Some.plain c.temperature_plainly.ensures c.in-Some.is))
