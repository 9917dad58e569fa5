-- Each word as it was read.
use Rattle.std.proofs.Common.{rules}
use Rattle.bench_calibration.proofs.Laws.{Same16, word, Plain, plain}
use Rattle.bench_calibration.specs.Words.{temperature}
use Rattle.bench_calibration.proofs.write_temperature.Goals as goal

pub returns : goal.returns
unfolding temperature
returns c =
    let t1 : Plain c.args.w.t1 = plain _ (search rules) in
    let t2 : Same16 c.args.w.t2 = word _ (search rules) in
    let t3 : Same16 c.args.w.t3 = word _ (search rules) in
    rw (c.fill_signed.ensures, t1, t2, t3)
