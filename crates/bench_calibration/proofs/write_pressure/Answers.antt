-- Each word as it was read.
use Rattle.std.proofs.Common.{rules}
use Rattle.bench_calibration.proofs.Laws.{Same16, word, Plain, plain}
use Rattle.bench_calibration.specs.Words.{pressure}
use Rattle.bench_calibration.proofs.write_pressure.Goals as goal

pub returns : goal.returns
unfolding pressure
returns c =
    let p1 : Plain c.args.w.p1 = plain _ (search rules) in
    let p2 : Same16 c.args.w.p2 = word _ (search rules) in
    let p3 : Same16 c.args.w.p3 = word _ (search rules) in
    let p4 : Same16 c.args.w.p4 = word _ (search rules) in
    let p5 : Same16 c.args.w.p5 = word _ (search rules) in
    let p6 : Same16 c.args.w.p6 = word _ (search rules) in
    let p7 : Same16 c.args.w.p7 = word _ (search rules) in
    let p8 : Same16 c.args.w.p8 = word _ (search rules) in
    let p9 : Same16 c.args.w.p9 = word _ (search rules) in
    rw (c.fill_signed.ensures, p1, p2, p3, p4, p5, p6, p7, p8, p9)
