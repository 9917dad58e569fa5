-- The bytes are written where no check fails, and as many as the definition has.
use mathlib.Core.List.{[]}
use mathlib.Core.Path.{◌≡◌}
use Rattle.std.proofs.Common.{rules, Err}
use Rattle.bus.specs.Reading.{question, encoded_read}
use Rattle.bus.proofs.Numbers.{read-holds, done, refusing, handing}
use Rattle.bus.proofs.encode_read.Goals as goal

pub returns-in_err-check_reading : goal.returns-in_err-check_reading
unfolding encoded_read
returns-in_err-check_reading c =
    let answer = rw c.question_length-length.ensures at c.check_reading.ensures in
    let same : c.from_residual.result ≡ Err c.in_err-check_reading.field-0.0 = search rules in
    rw same (refusing _ [] (question c.args.device c.args.register) c.args.lent.now answer c.in_err-check_reading.was)

pub write_question-requires : goal.write_question-requires
write_question-requires c =
    let answer = rw c.question_length-length.ensures at c.check_reading.ensures in
    read-holds _ _ _ _ (done answer c.in_ok-check_reading.was)

pub returns : goal.returns
unfolding encoded_read
returns c =
    let answer = rw c.question_length-length.ensures at c.check_reading.ensures in
    handing [] (question c.args.device c.args.register) c.args.lent.now (done answer c.in_ok-check_reading.was)
    c.question_length-length.ensures c.write_question.ensures
