-- A message is as long as what leads it and its pairs.
use mathlib.Core.Path.{sym}
use Rattle.bus.proofs.Shapes.{message-length}
use Rattle.bus.proofs.message.message_length.Goals as goal

pub returns : goal.returns
returns c = rw (c.leading_length.ensures.0, c.bus_of.ensures) (sym (message-length c.args.device c.args.pairs.now))
