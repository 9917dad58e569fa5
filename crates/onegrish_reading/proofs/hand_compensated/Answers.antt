-- `onegrish_reading::hand_compensated` meets its contract: what the plain road leaves is handed over as any reading. Assumes nothing.
use Prim.Native.Nat.{ℕ}
use mathlib.Core.Path.{ap}
use mathlib.Core.List.{List}
use lib.IntN.{ℤ}
use Rattle.compensation.proofs.OneAnswer.{one-reading}
use Rattle.onegrish_reading.proofs.hand_compensated.Goals as goal

abbrev first : List ℕ × List ℤ → List ℕ
first places = places.0

abbrev second : List ℕ × List ℤ → List ℤ
second places = places.1

pub returns : goal.returns
returns c =
    let left = rw c.if-hand.false at c.hand.ensures in
    rw (one-reading _ _ c.compensate_with.ensures, ap first left, ap second left) at c.hand_reading.ensures
