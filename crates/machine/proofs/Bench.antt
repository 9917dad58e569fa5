-- K12 and K13 hold by computation.
use mathlib.Core.Path.{refl}
use Rattle.machine.specs.Control.{effect, held_effect}
use Rattle.machine.specs.Data.{stored}
use Rattle.machine.specs.Events.{showing, keeping, delivering, waiting_shown}
use Rattle.machine.specs.Bench.{BenchSheet}

pub bench-sheet : BenchSheet
unfolding effect held_effect stored showing keeping delivering waiting_shown
bench-sheet = record {
  K12 = record { answer-is = refl; whole_is = refl; number_is = refl; left_is = refl; ledger-is = refl };
  K13 = record { answer-is = refl; whole_is = refl; number_is = refl; left_is = refl; ledger-is = refl };
}
