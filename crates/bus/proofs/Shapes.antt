-- What the tests of pairs and of a shape say, and how long changed pairs are.
use mathlib.Core.Path.{◌≡◌, refl}
use mathlib.Core.Bool.{true, ◌&&◌}
use mathlib.Core.List.{List}
use Prim.Native.Nat.{ℕ, ◌+◌, ◌*◌, ◌≤◌}
use native.Mathlib.Omega.{arith}
use lib.Dec.{leb}
use lib.ListN.{length}
use borrow.Author.Tests.{leb-true}
use Rattle.laws.specs.Tests.{both}
use Rattle.paper.specs.Registers as reg
use Rattle.bus.proofs.FlatPairs.{changed-length}
use Rattle.bus.specs.declared.Bus.{Bus}
use Rattle.bus.specs.declared.Bus.TheVariants.{I2c, Spi}
use Rattle.bus.specs.declared.Device.{Device}
use Rattle.bus.specs.declared.Device.TheVariants.{At, Selected}
use Rattle.bus.specs.declared.register.Change.{Change}
use Rattle.bus.specs.RegisterByte.{is_carried, is_changed_writable, sending, receiving}
use Rattle.bus.specs.Pairs.{is_even, are_pairs, every}
use Rattle.bus.specs.Devices.{bus_of, leading, leading_length, is_led}
use Rattle.bus.specs.Writing.{pairs_number, message, first_of, body, is_shaped, pairs_of, decode_number}

pub pairs-even : (s : List ℕ) → are_pairs s ≡ true → is_even s ≡ true
pairs-even s e = (both (is_even s) (leb 1 (length s) && leb (length s) (2 * reg.most_pairs)) e).0

pub pairs-some : (s : List ℕ) → are_pairs s ≡ true → 1 ≤ length s
pairs-some s e =
    let (even, limits) = both (is_even s) (leb 1 (length s) && leb (length s) (2 * reg.most_pairs)) e in
    leb-true 1 (length s) (both (leb 1 (length s)) (leb (length s) (2 * reg.most_pairs)) limits).0

module _ (bus : Bus) (bytes : List ℕ) (e : is_shaped bus bytes ≡ true) where
  parts : (leb 1 (length bytes) ≡ true) × ((is_led bus (first_of bytes) && (is_even (body bus bytes) && every (is_carried bus) (body bus bytes))) ≡ true)
  unfolding is_shaped
  parts = both (leb 1 (length bytes)) (is_led bus (first_of bytes) && (is_even (body bus bytes) && every (is_carried bus) (body bus bytes))) e

  pub shaped-nonempty : 1 ≤ length bytes
  shaped-nonempty = leb-true 1 (length bytes) parts.0

  after : (is_led bus (first_of bytes) ≡ true) × ((is_even (body bus bytes) && every (is_carried bus) (body bus bytes)) ≡ true)
  after = both (is_led bus (first_of bytes)) (is_even (body bus bytes) && every (is_carried bus) (body bus bytes)) parts.1

  pub shaped-led : is_led bus (first_of bytes) ≡ true
  shaped-led = after.0

  pub shaped-even : is_even (body bus bytes) ≡ true
  shaped-even = (both (is_even (body bus bytes)) (every (is_carried bus) (body bus bytes)) after.1).0

  pub shaped-carried : every (is_carried bus) (body bus bytes) ≡ true
  shaped-carried = (both (is_even (body bus bytes)) (every (is_carried bus) (body bus bytes)) after.1).1

pub message-length : (device : Device) (pairs : List ℕ) → length (message device pairs) ≡ leading_length (bus_of device) + length pairs
unfolding message
message-length (At address) pairs = omega (arith, changed-length (sending I2c) pairs)
message-length Selected pairs = omega (arith, changed-length (sending Spi) pairs)

pub leading_length_lem : (device : Device) → leading_length (bus_of device) ≡ length (leading device)
leading_length_lem (At address) = refl
leading_length_lem Selected = refl

-- decoding needs room for as many bytes as the body has
pub decode-number : (bus : Bus) (bytes : List ℕ) (room : ℕ) {change : Change} {pairs : List ℕ} →
    is_shaped bus bytes ≡ true → pairs ≡ body bus bytes → change ≡ receiving bus →
    pairs_number (is_changed_writable change) pairs (length pairs) room ≡ decode_number bus bytes (length (pairs_of bus bytes)) room
unfolding decode_number pairs_of
decode-number bus bytes room shaped b r = rw (shaped, changed-length, b, r)
