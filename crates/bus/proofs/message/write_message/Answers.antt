-- What leads the message is written first, and then its pairs through the part of the buffer after that.
-- where the pairs start
use mathlib.Core.Path.{◌≡◌, ◌∙◌}
use Prim.Native.Nat.{ℕ}
use native.Mathlib.Omega.{arith}
use lib.ListN.{length}
use Rattle.bus.specs.declared.Bus.{Bus}
use Rattle.bus.specs.declared.Device.{Device}
use Rattle.bus.specs.RegisterByte.{sending}
use Rattle.bus.specs.Pairs.{with_registers}
use Rattle.bus.specs.Devices.{bus_of, leading, leading_length}
use Rattle.bus.specs.Writing.{message}
use Rattle.bus.proofs.Buffers.{part_room, head-and-tail}
use Rattle.bus.proofs.FlatPairs.{changed-length}
use Rattle.bus.proofs.Shapes.{message-length, leading_length_lem}
use Rattle.bus.proofs.message.write_message.Goals as goal

starts : (device : Device) {bus : Bus} {start : ℕ} → bus ≡ bus_of device → start ≡ leading_length bus → start ≡ length (leading device)
starts device b s = s ∙ rw b (leading_length_lem device)

pub write_leading-requires : goal.write_leading-requires
write_leading-requires c =
    (c.requires.0, omega (arith, c.requires.2, message-length c.args.device c.args.pairs.now, leading_length_lem c.args.device))

pub write_changed-requires : goal.write_changed-requires
unfolding message
write_changed-requires c =
    let tail = with_registers (sending (bus_of c.args.device)) c.args.pairs.now in
    let start = starts c.args.device c.bus_of-bus.ensures c.leading_length-start.ensures.0 in
    let room = part_room (leading c.args.device) tail _ c.args.lent.now _ start c.write_leading.ensures c.requires.2 in
    (c.requires.1, rw (changed-length (sending (bus_of c.args.device)) c.args.pairs.now) at room)

pub returns : goal.returns
unfolding message
returns c =
    let start = starts c.args.device c.bus_of-bus.ensures c.leading_length-start.ensures.0 in
    head-and-tail (leading c.args.device) (with_registers (sending (bus_of c.args.device)) c.args.pairs.now) _ c.args.lent.now _ start
    c.write_leading.ensures _ (rw (c.sending.ensures, c.bus_of-bus.ensures) at c.write_changed.ensures)
