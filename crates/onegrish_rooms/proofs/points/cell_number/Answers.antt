-- By the case of the cell.
use native.Mathlib.Omega.{arith}
use Rattle.std.proofs.lemmas.Grind.{common_steps}
use Rattle.rooms.specs.Points.{cell_answer}
use Rattle.onegrish_rooms.proofs.points.cell_number.Goals as goal

pub returns-in-Temperature : goal.returns-in-Temperature
unfolding cell_answer
returns-in-Temperature c = grind (arith, common_steps)

pub returns-in-Missing : goal.returns-in-Missing
unfolding cell_answer
returns-in-Missing c = rw c.in-Missing.is
