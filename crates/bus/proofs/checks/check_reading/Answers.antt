-- The code checks in the order of the definition.
use mathlib.Core.Path.{sym, ◌∙◌}
use Rattle.bus.specs.Reading.{read_number}
use Rattle.bus.proofs.checks.check_reading.Goals as goal

pub returns-then-not-is_device : goal.returns-then-not-is_device
unfolding read_number
returns-then-not-is_device c = rw (c.refused.ensures, sym c.is_device.ensures ∙ c.if-not-is_device.true)

pub returns-then-not-is_readable : goal.returns-then-not-is_readable
unfolding read_number
returns-then-not-is_readable c =
    rw (
      c.refused-then-not-is_readable.ensures,
      sym c.is_device.ensures ∙ c.if-not-is_device.false,
      sym c.is_readable.ensures ∙ c.if-not-is_readable.true,
    )

pub returns : goal.returns
unfolding read_number
returns c =
    rw (
      c.check_room.ensures,
      sym c.is_device.ensures ∙ c.if-not-is_device.false,
      sym c.is_readable.ensures ∙ c.if-not-is_readable.false,
    )
