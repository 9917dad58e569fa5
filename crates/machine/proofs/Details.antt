-- The details hold by computation.
use mathlib.Core.Path.{refl}
use Rattle.machine.specs.Control.{effect, held_effect}
use Rattle.machine.specs.Data.{stored}
use Rattle.machine.specs.Events.{showing, keeping, delivering, waiting_shown}
use Rattle.machine.specs.Details.{Details}

pub details : Details
unfolding effect held_effect stored showing keeping delivering waiting_shown
details = record {
  f2-waits-for-f4 = refl;
  f2-comes-with-f4 = refl;
  skipped-is-stored = refl;
  held-once = refl;
  standby-goes-on = refl;
  forced-clears-its-mode = refl;
  held-then-begins = refl;
  f5-drops-bit-1 = refl;
  f5-in-standby = refl;
  e0-other = refl;
  e0-while-copying = refl;
  f2-while-copying = refl;
  held-copies = refl;
  wake-copies = refl;
  standby-copies-nothing = refl;
  finish-while-copying = refl;
  f2-during-one = refl;
  f5-during-one = refl;
  f4-during-one = refl;
  copied-leaves-it = refl;
  e0-in-a-burst = refl;
  power-ends-a-burst = refl;
  power-abandons-all = refl;
  last-in-write = refl;
  last-sleeps = refl;
  last-in-finish = refl;
  last-in-wake = refl;
  chip-id = refl;
  status-begun = refl;
  status-copied = refl;
  past-the-last = refl;
  close-asks-for-a-burst = refl;
  close-asks-for-eight = refl;
  none-open-none-whole = refl;
  nothing-shown = refl;
  nothing-shown-codes = refl;
  nothing-shown-before = refl;
  nothing-shown-bytes = refl;
}
