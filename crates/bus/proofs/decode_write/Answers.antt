-- The pairs are written where no check fails, and as many bytes as the body has.
use mathlib.Core.Path.{◌≡◌, sym}
use Rattle.std.proofs.Common.{rules, Err}
use Rattle.bus.specs.RegisterByte.{receiving}
use Rattle.bus.specs.Devices.{addressed, addresses}
use Rattle.bus.specs.Writing.{body, pairs_of, first_of, decoded_write}
use Rattle.bus.proofs.FlatPairs.{changed-length}
use Rattle.bus.proofs.Shapes.{shaped-nonempty, shaped-even}
use Rattle.bus.proofs.Numbers.{decode-holds, done, refusing, handing}
use Rattle.bus.proofs.decode_write.Goals as goal

pub returns-in_err-check_decoding : goal.returns-in_err-check_decoding
unfolding decoded_write
returns-in_err-check_decoding c =
    let same : c.from_residual.result ≡ Err c.in_err-check_decoding.field-0.0 = search rules in
    rw same
    (refusing _ (addresses (addressed c.args.bus (first_of c.args.bytes.now))) (pairs_of c.args.bus c.args.bytes.now) c.args.lent.now
    c.check_decoding.ensures c.in_err-check_decoding.was)

pub body-body-requires : goal.body-body-requires
body-body-requires c = shaped-nonempty _ _ (decode-holds _ _ _ _ (done c.check_decoding.ensures c.in_ok-check_decoding.was)).0

pub write_changed-requires : goal.write_changed-requires
unfolding pairs_of
write_changed-requires c =
    let (shaped, sendable) = decode-holds c.args.bus c.args.bytes.now _ _ (done c.check_decoding.ensures c.in_ok-check_decoding.was) in
    let room = rw (changed-length (receiving c.args.bus) (body c.args.bus c.args.bytes.now)) at sendable.roomy in
    (rw c.body-body.ensures (shaped-even _ _ shaped), rw c.body-body.ensures room)

pub bounds-bytes-0 : goal.bounds-bytes-0
bounds-bytes-0 c = shaped-nonempty _ _ (decode-holds _ _ _ _ (done c.check_decoding.ensures c.in_ok-check_decoding.was)).0

pub returns : goal.returns
unfolding decoded_write pairs_of
returns c =
    let long = changed-length (receiving c.args.bus) (body c.args.bus c.args.bytes.now) in
    rw c.addressed.ensures
    (handing (addresses (addressed c.args.bus (first_of c.args.bytes.now))) (pairs_of c.args.bus c.args.bytes.now) c.args.lent.now
    (done c.check_decoding.ensures c.in_ok-check_decoding.was) (rw c.body-body.ensures (sym long))
    (rw (c.receiving.ensures, c.body-body.ensures) at c.write_changed.ensures))
