-- The code checks in the order of the definition.
use mathlib.Core.Path.{sym, ◌∙◌}
use Rattle.bus.specs.Writing.{encode_number}
use Rattle.bus.proofs.checks.check_encoding.Goals as goal

pub returns-then-not-is_device : goal.returns-then-not-is_device
unfolding encode_number
returns-then-not-is_device c = rw (c.refused.ensures, sym c.is_device.ensures ∙ c.if-not-is_device.true)

pub returns : goal.returns
unfolding encode_number
returns c = rw (c.check_pairs.ensures, sym c.is_device.ensures ∙ c.if-not-is_device.false)
