-- Messages both ways, worked out apart from the definitions: each number in the order of its check, each register and each device.
use Prim.Native.Nat.{ℕ}
use lib.ListN.{replicate}
use mathlib.Core.List.{List, [], ◌∷◌}
use mathlib.Core.Path.{refl}
use Rattle.laws.specs.Tables.{Row, ◌gives◌, AllHold, in_turn}
use Rattle.paper.specs.Answers.{Answer, given, refused}
use Rattle.bus.specs.declared.Bus.TheVariants.{I2c, Spi}
use Rattle.bus.specs.declared.Device.TheVariants.{At, Selected}
use Rattle.bus.specs.Pairs.{every, with_registers}
use Rattle.bus.specs.Lent.{handed}
use Rattle.bus.specs.Writing as w
use Rattle.bus.specs.Writing.{encoded_write, decoded_write}
use Rattle.bus.specs.Reading.{read_number, encoded_read}

pub messages : List (Row (Answer × List ℕ))
messages =
    -- every register that may be written, at either address and on SPI
    (encoded_write (At 0x77) (0xF2 ∷ 1 ∷ 0xF4 ∷ 2 ∷ 0xF5 ∷ 3 ∷ 0xE0 ∷ 4 ∷ []) (replicate 10 9)
    gives (given (9 ∷ []), 0xEE ∷ 0xF2 ∷ 1 ∷ 0xF4 ∷ 2 ∷ 0xF5 ∷ 3 ∷ 0xE0 ∷ 4 ∷ 9 ∷ []))
    ∷ (encoded_write (At 0x76) (0xF4 ∷ 0x27 ∷ []) (replicate 3 9) gives (given (3 ∷ []), 0xEC ∷ 0xF4 ∷ 0x27 ∷ []))
    ∷ (encoded_write Selected (0xF2 ∷ 1 ∷ 0xF4 ∷ 2 ∷ 0xF5 ∷ 3 ∷ 0xE0 ∷ 4 ∷ []) (replicate 9 9)
    gives (given (8 ∷ []), 0x72 ∷ 1 ∷ 0x74 ∷ 2 ∷ 0x75 ∷ 3 ∷ 0x60 ∷ 4 ∷ 9 ∷ []))
    -- sixteen pairs, and one more
    ∷ (encoded_write Selected (in_turn 16 0xF4 0x27) (in_turn 16 0 0) gives (given (32 ∷ []), in_turn 16 0x74 0x27))
    ∷ (encoded_write Selected (in_turn 17 0xF4 0x27) (in_turn 17 0 0) gives (refused 15, in_turn 17 0 0))
    -- the checks in their order: 4 for the device, 15, 4 for a register, 9
    ∷ (encoded_write (At 0x75) [] [] gives (refused 4, []))
    ∷ (encoded_write (At 0x78) [] [] gives (refused 4, []))
    ∷ (encoded_write (At 0x76) [] [] gives (refused 15, []))
    ∷ (encoded_write Selected (0xF4 ∷ 0x27 ∷ 0xF3 ∷ []) [] gives (refused 15, []))
    ∷ (encoded_write Selected (0xF4 ∷ 0x27 ∷ 0xF3 ∷ 0 ∷ []) [] gives (refused 4, []))
    ∷ (encoded_write (At 0x76) (0xF4 ∷ 0x27 ∷ []) (7 ∷ 7 ∷ []) gives (refused 9, 7 ∷ 7 ∷ []))
    ∷ (encoded_write Selected (0xF4 ∷ 0x27 ∷ []) (7 ∷ []) gives (refused 9, 7 ∷ []))
    -- messages back: the pairs, and on I2C the device address
    ∷ (decoded_write I2c (0xEC ∷ 0xF4 ∷ 0x27 ∷ []) (0 ∷ 0 ∷ 9 ∷ []) gives (given (0x76 ∷ 2 ∷ []), 0xF4 ∷ 0x27 ∷ 9 ∷ []))
    ∷ (decoded_write I2c (0xEE ∷ 0xE0 ∷ 0xB6 ∷ []) (0 ∷ 0 ∷ []) gives (given (0x77 ∷ 2 ∷ []), 0xE0 ∷ 0xB6 ∷ []))
    ∷ (decoded_write Spi (0x74 ∷ 0x27 ∷ []) (0 ∷ 0 ∷ 9 ∷ []) gives (given (2 ∷ []), 0xF4 ∷ 0x27 ∷ 9 ∷ []))
    -- 16: empty, an odd number of bytes, another first byte, bit 7 set on SPI
    ∷ (decoded_write I2c [] [] gives (refused 16, []))
    ∷ (decoded_write Spi [] [] gives (refused 16, []))
    ∷ (decoded_write I2c (0xEC ∷ 0xF4 ∷ []) [] gives (refused 16, []))
    ∷ (decoded_write Spi (0x74 ∷ []) [] gives (refused 16, []))
    ∷ (decoded_write I2c (0xED ∷ 0xF4 ∷ 0x27 ∷ []) [] gives (refused 16, []))
    ∷ (decoded_write Spi (0x80 ∷ 0x27 ∷ []) [] gives (refused 16, []))
    -- 15: an address and nothing more, and 17 pairs
    ∷ (decoded_write I2c (0xEC ∷ []) [] gives (refused 15, []))
    ∷ (decoded_write Spi (in_turn 17 0x74 0x27) [] gives (refused 15, []))
    -- 4 for a register, and 9
    ∷ (decoded_write I2c (0xEC ∷ 0xF3 ∷ 0 ∷ []) [] gives (refused 4, []))
    ∷ (decoded_write Spi (0x7F ∷ 0 ∷ []) [] gives (refused 4, []))
    ∷ (decoded_write Spi (0x74 ∷ 0x27 ∷ []) (7 ∷ []) gives (refused 9, 7 ∷ []))
    -- reads: each device, both ends of 0x80 to 0xFF, 4 for the device and for the register, 9
    ∷ (encoded_read (At 0x76) 0xF7 (0 ∷ 0 ∷ 0 ∷ 9 ∷ []) gives (given (3 ∷ []), 0xEC ∷ 0xF7 ∷ 0xED ∷ 9 ∷ []))
    ∷ (encoded_read (At 0x77) 0x80 (0 ∷ 0 ∷ 0 ∷ []) gives (given (3 ∷ []), 0xEE ∷ 0x80 ∷ 0xEF ∷ []))
    ∷ (encoded_read Selected 0xFF (0 ∷ 9 ∷ []) gives (given (1 ∷ []), 0xFF ∷ 9 ∷ []))
    ∷ (encoded_read (At 0x75) 0xF7 [] gives (refused 4, []))
    ∷ (encoded_read Selected 0x7F [] gives (refused 4, []))
    ∷ (encoded_read Selected 0x100 [] gives (refused 4, []))
    ∷ (encoded_read (At 0x76) 0xF7 (7 ∷ 7 ∷ []) gives (refused 9, 7 ∷ 7 ∷ []))
    ∷ (encoded_read Selected 0xF7 [] gives (refused 9, []))
    ∷ []

pub all_hold : AllHold messages
unfolding messages every with_registers handed w.pairs_number w.message w.encode_number encoded_write w.is_shaped w.pairs_of w.decode_number decoded_write read_number encoded_read
all_hold = refl
