-- Each word as it was read.
use Rattle.std.proofs.Common.{rules}
use Rattle.bench_calibration.proofs.Laws.{Same16, Same8, word, octet, Plain, plain}
use Rattle.bench_calibration.specs.Words.{humidity}
use Rattle.bench_calibration.proofs.write_humidity.Goals as goal

pub returns : goal.returns
unfolding humidity
returns c =
    let h1 : Plain c.args.w.h1 = plain _ (search rules) in
    let h2 : Same16 c.args.w.h2 = word _ (search rules) in
    let h3 : Plain c.args.w.h3 = plain _ (search rules) in
    let h4 : Same16 c.args.w.h4 = word _ (search rules) in
    let h5 : Same16 c.args.w.h5 = word _ (search rules) in
    let h6 : Same8 c.args.w.h6 = octet _ (search rules) in
    rw (c.fill_signed.ensures, h1, h2, h3, h4, h5, h6)
