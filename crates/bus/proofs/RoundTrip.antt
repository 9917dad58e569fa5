-- What is encoded decodes to the same pairs for the same device, and what decodes is encoded to the same bytes again.
use mathlib.Core.Path.{◌≡◌, refl, ap, sym}
use mathlib.Core.Bool.{true}
use mathlib.Core.List.{List, [], ◌∷◌, ◌++◌}
use Prim.Native.Nat.{ℕ, ◌≤◌}
use native.Mathlib.Omega.{arith}
use lib.ListN.{length, get_or, take}
use borrow.Author.Tests.{le-leb}
use Rattle.paper.specs.Answers.{given}
use Rattle.bus.specs.declared.Bus.{Bus}
use Rattle.bus.specs.declared.Device.{Device}
use Rattle.paper.specs.Registers.{is_writable}
use Rattle.bus.specs.RegisterByte.{is_carried, sending, receiving}
use Rattle.bus.specs.Pairs.{is_even, are_pairs, every, with_registers}
use Rattle.bus.specs.Devices.{bus_of, is_device, addressed, addresses}
use Rattle.bus.specs.Lent.{laid_over}
use Rattle.bus.specs.Writing.{message, encoded_write, first_of, body, is_shaped, means_writable, pairs_of, decoded_write}
use Rattle.bus.proofs.FlatPairs.{changed-length}
use Rattle.bus.proofs.Shapes.{pairs-even, pairs-some, shaped-nonempty, shaped-led, shaped-carried, message-length}
use Rattle.bus.proofs.Numbers.{Sendable, encode-holds, encode-passes, decode-holds, decode-passes, handing, handed-back}
use Rattle.bus.proofs.OneAnswer.{one-device}
use Rattle.bus.proofs.Wire.{back, again, carried, every-changed, undone, led, after-leading, same-device, same-bus, is-device, whole}

-- ---- encoded, then decoded

module _ (device : Device) (pairs : List ℕ) (d : is_device device ≡ true) (a : are_pairs pairs ≡ true) (w : every is_writable pairs ≡ true) where
  abbrev wire : List ℕ
  wire = with_registers (sending (bus_of device)) pairs

  sent-shaped : is_shaped (bus_of device) (message device pairs) ≡ true
  unfolding is_shaped message
  sent-shaped =
      let even : is_even wire ≡ true = rw (changed-length (sending (bus_of device)) pairs) (pairs-even pairs a) in
      let some : 1 ≤ length (message device pairs) = omega (arith, message-length device pairs, pairs-some pairs a) in
      rw (
        le-leb 1 (length (message device pairs)) some,
        led device wire d,
        after-leading device wire,
        even,
        every-changed is_writable (sending (bus_of device)) (is_carried (bus_of device)) (λ register h. carried (bus_of device) register) pairs w,
      )

  sent-pairs : pairs_of (bus_of device) (message device pairs) ≡ pairs
  unfolding pairs_of message
  sent-pairs = rw (after-leading device wire) (undone is_writable (sending (bus_of device)) (receiving (bus_of device)) (back (bus_of device)) pairs w)

  sent-sendable : (room : ℕ) → length pairs ≤ room → Sendable (means_writable (bus_of device)) (body (bus_of device) (message device pairs)) (length pairs) room
  unfolding message
  sent-sendable room h =
      record {
        pairwise = rw (after-leading device wire, changed-length (sending (bus_of device)) pairs) a;
        tested = rw (after-leading device wire) (every-changed is_writable (sending (bus_of device)) (means_writable (bus_of device)) (λ register g. rw (back (bus_of device) register g) g) pairs w);
        roomy = h;
      }

  sent-decoded :
      (lent : List ℕ) → length pairs ≤ length lent →
      decoded_write (bus_of device) (message device pairs) lent ≡ (given (addresses device ++ length pairs ∷ []), laid_over pairs lent)
  unfolding decoded_write message
  sent-decoded lent h =
      let number = decode-passes (bus_of device) (message device pairs) (length pairs) (length lent) sent-shaped (sent-sendable (length lent) h) in
      rw (sent-pairs, same-device device wire) (sym (handing (addresses device) pairs lent number refl refl))

-- ---- decoded, then encoded

module _ (bus : Bus) (bytes : List ℕ) (shaped : is_shaped bus bytes ≡ true) (a : are_pairs (body bus bytes) ≡ true) (w : every (means_writable bus) (body bus bytes) ≡ true) where
  abbrev target : Device
  target = addressed bus (first_of bytes)

  same_bytes : message target (pairs_of bus bytes) ≡ bytes
  unfolding message pairs_of
  same_bytes =
      rw (same-bus bus (first_of bytes), undone (is_carried bus) (receiving bus) (sending bus) (again bus) (body bus bytes) (shaped-carried bus bytes shaped))
      (whole bus bytes (shaped-nonempty bus bytes shaped) (shaped-led bus bytes shaped))

  received-sendable : (room : ℕ) → length bytes ≤ room → Sendable is_writable (pairs_of bus bytes) (length bytes) room
  unfolding pairs_of
  received-sendable room h =
      record {
        pairwise = rw (changed-length (receiving bus) (body bus bytes)) a;
        tested = every-changed (means_writable bus) (receiving bus) is_writable (λ register g. g) (body bus bytes) w;
        roomy = h;
      }

  received-encoded :
      (lent : List ℕ) → length bytes ≤ length lent →
      encoded_write target (pairs_of bus bytes) lent ≡ (given (length bytes ∷ []), laid_over bytes lent)
  unfolding encoded_write
  received-encoded lent h =
      let number = encode-passes target (pairs_of bus bytes) (length bytes) (length lent) (is-device bus (first_of bytes) (shaped-led bus bytes shaped)) (received-sendable (length lent) h) in
      rw same_bytes (sym (handing [] bytes lent number refl refl))

-- ---- the two theorems, for any lent buffer with room

-- the bytes that were encoded, on either bus and for either address, decode to the same pairs and the same device
pub decodes-back :
    (device : Device) (pairs lent : List ℕ) (n : ℕ) (sent : List ℕ) → encoded_write device pairs lent ≡ (given (n ∷ []), sent) →
    (lent' : List ℕ) → length pairs ≤ length lent' →
    decoded_write (bus_of device) (take n sent) lent' ≡ (given (addresses device ++ length pairs ∷ []), laid_over pairs lent')
unfolding encoded_write
decodes-back device pairs lent n sent e lent' h =
    let b = handed-back _ [] (message device pairs) lent (n ∷ []) sent e in
    let (d, sendable) = encode-holds device pairs _ _ b.done in
    let long : length (message device pairs) ≡ n = ap (λ (l : List ℕ). get_or l 0 0) b.given-values in
    let bytes : take n sent ≡ message device pairs = rw long at b.front in
    rw bytes (sent-decoded device pairs d sendable.pairwise sendable.tested lent' h)

-- whatever decodes is encoded, for the device that decoding gave, to the same bytes again
pub encodes-back :
    (bus : Bus) (bytes lent : List ℕ) (device : Device) (n : ℕ) (received : List ℕ) → decoded_write bus bytes lent ≡ (given (addresses device ++ n ∷ []), received) →
    (lent' : List ℕ) → length bytes ≤ length lent' →
    encoded_write device (take n received) lent' ≡ (given (length bytes ∷ []), laid_over bytes lent')
unfolding decoded_write
encodes-back bus bytes lent device n received e lent' h =
    let b = handed-back _ (addresses (addressed bus (first_of bytes))) (pairs_of bus bytes) lent (addresses device ++ n ∷ []) received e in
    let (shaped, sendable) = decode-holds bus bytes _ _ b.done in
    let (same, long) = one-device (addressed bus (first_of bytes)) device (length (pairs_of bus bytes)) n b.given-values in
    let pairs : take n received ≡ pairs_of bus bytes = rw long at b.front in
    rw (← same, pairs) (received-encoded bus bytes shaped sendable.pairwise sendable.tested lent' h)
