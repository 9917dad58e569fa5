-- The divisor's bits are those of the definition's.
use lib.Ieee.{div, of_int, of_bits}
use Rattle.rooms.specs.Points.{over}
use Rattle.rooms.proofs.doubles.humidity.Goals as goal

pub returns-in-Ok : goal.returns-in-Ok
unfolding div over of_int of_bits
returns-in-Ok c = rw c.in-Ok.is
