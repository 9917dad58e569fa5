-- `compensation::channels::pressure` meets its contract: its formula's promise leaves one answer. Assumes nothing.
use Rattle.std.proofs.Common.{rules}
use Rattle.formula.proofs.OneAnswer.{one-channel}
use Rattle.formula_pressure.specs.Pressure.{pressure_of}
use Rattle.compensation.proofs.channels.pressure.Goals as goal

pub returns : goal.returns
returns c =
    c.channel.ensures (λ fine. pressure_of c.args.words fine c.args.count) (λ fine answer met. one-channel answer _ (search rules))
