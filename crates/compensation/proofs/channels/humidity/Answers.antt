-- `compensation::channels::humidity` meets its contract: its formula's promise leaves one answer. Assumes nothing.
use Rattle.std.proofs.Common.{rules}
use Rattle.formula.proofs.OneAnswer.{one-channel}
use Rattle.formula_humidity.specs.Humidity.{humidity_of}
use Rattle.compensation.proofs.channels.humidity.Goals as goal

pub returns : goal.returns
returns c =
    c.channel.ensures (λ fine. humidity_of c.args.words fine c.args.count) (λ fine answer met. one-channel answer _ (search rules))
