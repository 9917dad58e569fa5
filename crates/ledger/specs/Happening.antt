-- What can happen. A history is a list of happenings, the latest first. It is of one part, whose kind stays, and so every happening is of that kind of part.
use Rattle.std.specs.Prelude.{ℕ}
use Rattle.kinds.specs.declared.Kind.{Kind}

-- Copying ended; F2 or F5 was written with a value; F4 was written during a conversion and is held; F4 took effect with a value.
pub data Change : Type 0 where
  copied : Change
  wrote_f2 wrote_f5 held_f4 took_f4 : ℕ → Change

-- A conversion began; the running one finished, with the counts of temperature, pressure and humidity; a reset or power event came; a burst was opened at an
-- address, gave a value, and was closed; a field of the device was changed.
pub data Happening (kind : Kind) : Type 0 where
  began lost closed : Happening kind
  finished : ℕ → ℕ → ℕ → Happening kind
  opened gave : ℕ → Happening kind
  changed : Change → Happening kind
