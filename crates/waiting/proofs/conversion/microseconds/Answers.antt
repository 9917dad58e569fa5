-- The sum is the definition's; no part exceeds 170000, so that it fits.
use Rattle.waiting.specs.Waiting.{microseconds}
use Rattle.waiting.proofs.conversion.microseconds.Goals as goal

pub returns : goal.returns
unfolding microseconds
returns c = rw (c.channel_part-of_humidity.ensures.0, c.channel_part-of_pressure.ensures.0, c.channel_part-of_temperature.ensures.0)
