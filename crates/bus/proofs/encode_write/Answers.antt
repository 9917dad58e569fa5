-- The message is written where no check fails, and as long as the definition has it.
use mathlib.Core.List.{[]}
use mathlib.Core.Path.{◌≡◌}
use Rattle.std.proofs.Common.{rules, Err}
use Rattle.bus.specs.Writing.{message, encoded_write}
use Rattle.bus.proofs.Shapes.{pairs-even}
use Rattle.bus.proofs.Numbers.{encode-holds, done, refusing, handing}
use Rattle.bus.proofs.encode_write.Goals as goal

pub returns-in_err-check_encoding : goal.returns-in_err-check_encoding
unfolding encoded_write
returns-in_err-check_encoding c =
    let answer = rw c.message_length-length.ensures at c.check_encoding.ensures in
    let same : c.from_residual.result ≡ Err c.in_err-check_encoding.field-0.0 = search rules in
    rw same (refusing _ [] (message c.args.device c.args.pairs.now) c.args.lent.now answer c.in_err-check_encoding.was)

pub write_message-requires : goal.write_message-requires
write_message-requires c =
    let answer = rw c.message_length-length.ensures at c.check_encoding.ensures in
    let (device, sendable) = encode-holds c.args.device c.args.pairs.now _ _ (done answer c.in_ok-check_encoding.was) in
    (device, pairs-even c.args.pairs.now sendable.pairwise, sendable.roomy)

pub returns : goal.returns
unfolding encoded_write
returns c =
    let answer = rw c.message_length-length.ensures at c.check_encoding.ensures in
    handing [] (message c.args.device c.args.pairs.now) c.args.lent.now (done answer c.in_ok-check_encoding.was)
    c.message_length-length.ensures c.write_message.ensures
