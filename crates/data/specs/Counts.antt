-- The eight bytes 0xF7 to 0xFE and the three counts: pressure at 0xF7, temperature at 0xFA, humidity at 0xFD, high bits first.
use Rattle.std.specs.Prelude.{ℕ, ◌+◌, ◌*◌, ◌/◌, ◌%◌, List, [], ◌∷◌, get_or}
use Rattle.data.specs.declared.Counts.{Counts}

-- ---- taken out

-- two bytes and the high nibble of a third, whose low nibble is disregarded
abbrev pub twenty_bits : ℕ → ℕ → ℕ → ℕ
twenty_bits high middle low = high * 4096 + middle * 16 + low / 16

abbrev pub sixteen_bits : ℕ → ℕ → ℕ
sixteen_bits high low = high * 256 + low

abbrev pub counts_of : List ℕ → Counts
counts_of bytes =
    record {
      temperature = twenty_bits (get_or bytes 3 0) (get_or bytes 4 0) (get_or bytes 5 0);
      pressure = twenty_bits (get_or bytes 0 0) (get_or bytes 1 0) (get_or bytes 2 0);
      humidity = sixteen_bits (get_or bytes 6 0) (get_or bytes 7 0);
    }

-- ---- the same out of the eight bytes as one number of 64 bits, high byte first

abbrev pub parted : ℕ → Counts
parted all =
    record { temperature = all / 0x100000 % 0x100000; pressure = all / 0x100000000000; humidity = all % 0x10000 }

-- ---- laid out

-- of temperature, pressure and humidity; the low nibbles of 0xF9 and 0xFC are 0
abbrev pub laid : ℕ → ℕ → ℕ → List ℕ
laid t p h =
    p / 4096 % 256 ∷ p / 16 % 256 ∷ p % 16 * 16 ∷ t / 4096 % 256 ∷ t / 16 % 256 ∷ t % 16 * 16 ∷ h / 256 % 256 ∷ h % 256 ∷ []
