-- Writes: register and value pairs as bytes of either bus, and back.
use Rattle.std.specs.Prelude.{ℕ, leb, length, get_or, drop, Bool, ◌&&◌, List, [], ◌∷◌, ◌++◌, Result, Ok, Err}
use Rattle.paper.specs.Numbers as no
use Rattle.paper.specs.declared.Refusal.{Refusal}
use Rattle.paper.specs.Answers.{Answer, given, refused}
use Rattle.bus.specs.declared.Bus.{Bus}
use Rattle.bus.specs.declared.Device.{Device}
use Rattle.bus.specs.declared.Decoded.{Decoded}
use Rattle.paper.specs.Registers.{is_writable}
use Rattle.bus.specs.RegisterByte.{is_carried, changed, sending, receiving}
use Rattle.bus.specs.Pairs.{is_even, are_pairs, every, with_registers}
use Rattle.bus.specs.Devices.{bus_of, is_device, leading, leading_length, is_led, addressed, addresses}
use Rattle.bus.specs.Lent.{check, handed}

-- both ways: 15, 4 for a register that fails the test, 9 where more bytes are needed than there is room for
unfoldable pub pairs_number : (ℕ → Bool) → List ℕ → ℕ → ℕ → ℕ
pairs_number test pairs needed room =
    check (are_pairs pairs) no.pairs_outside
    (check (every test pairs) no.address_not_allowed (check (leb needed room) no.buffer_too_short no.done))

-- ---- encoding: 4 for the device address, 15, 4 for registers, 9

unfoldable pub message : Device → List ℕ → List ℕ
message device pairs = leading device ++ with_registers (sending (bus_of device)) pairs

unfoldable pub encode_number : Device → List ℕ → ℕ → ℕ → ℕ
encode_number device pairs needed room =
    check (is_device device) no.address_not_allowed (pairs_number is_writable pairs needed room)

unfoldable pub encoded_write : Device → List ℕ → List ℕ → Answer × List ℕ
encoded_write device pairs lent =
    handed (encode_number device pairs (length (message device pairs)) (length lent)) [] (message device pairs) lent

-- ---- decoding: 16, 15, 4, 9

abbrev pub first_of : List ℕ → ℕ
first_of bytes = get_or bytes 0 0

-- what stands after the I2C address, and all there is on SPI
abbrev pub body : Bus → List ℕ → List ℕ
body bus bytes = drop (leading_length bus) bytes

-- not empty; on I2C an address doubled first; whole pairs then; on SPI no register byte with bit 7 set
unfoldable pub is_shaped : Bus → List ℕ → Bool
is_shaped bus bytes =
    leb 1 (length bytes)
    && (is_led bus (first_of bytes) && (is_even (body bus bytes) && every (is_carried bus) (body bus bytes)))

-- whether the register that a byte on the bus means may be written
abbrev pub means_writable : Bus → ℕ → Bool
means_writable bus byte = is_writable (changed (receiving bus) byte)

unfoldable pub decode_number : Bus → List ℕ → ℕ → ℕ → ℕ
decode_number bus bytes needed room =
    check (is_shaped bus bytes) no.wrong_shape (pairs_number (means_writable bus) (body bus bytes) needed room)

unfoldable pub pairs_of : Bus → List ℕ → List ℕ
pairs_of bus bytes = with_registers (receiving bus) (body bus bytes)

unfoldable pub decoded_write : Bus → List ℕ → List ℕ → Answer × List ℕ
decoded_write bus bytes lent =
    handed (decode_number bus bytes (length (pairs_of bus bytes)) (length lent)) (addresses (addressed bus (first_of bytes)))
    (pairs_of bus bytes) lent

-- ---- the paper's number and values for each case

abbrev pub encoded_answer : Result ℕ Refusal → Answer
encoded_answer (Ok n) = given (n ∷ [])
encoded_answer (Err why) = refused why.number

abbrev pub decoded_answer : Result Decoded Refusal → Answer
decoded_answer (Ok decoded) = given (addresses decoded.device ++ decoded.bytes ∷ [])
decoded_answer (Err why) = refused why.number
