-- What each kind of part has of its own: one table.
use Rattle.std.specs.Prelude.{ℕ, Bool, true, false, not, ◌&&◌, ◌||◌, [], ◌∷◌, eqb}
use Rattle.paper.specs.Registers as reg
use Rattle.kinds.specs.declared.Kind.{Kind}
use Rattle.kinds.specs.declared.Kind.TheVariants.{Bme280, Bmp280}
use Rattle.kinds.specs.declared.Chip.{Chip}

-- Chip id, humidity and F2, the last data address, blocks one and two and data, and the fresh bytes, which have eight places. A BMP280 has no F2 and no
-- humidity, and block two doesn't exist.
abbrev pub facts : Kind → Chip
facts Bme280 = record {
  id = reg.bme280;
  humidity = true;
  last = reg.last_data;
  one = reg.block_one;
  two = reg.block_two;
  bytes = reg.data_length;
  fresh = reg.fresh_bytes;
}
facts Bmp280 = record {
  id = 0x58;
  humidity = false;
  last = 0xFC;
  one = reg.block_one;
  two = 0;
  bytes = 6;
  fresh = 0x80 ∷ 0x00 ∷ 0x00 ∷ 0x80 ∷ 0x00 ∷ 0x00 ∷ 0x00 ∷ 0x00 ∷ [];
}

-- F2, where it is there, F4, F5 and E0 may be written
abbrev pub is_writable : Kind → ℕ → Bool
is_writable kind a = (not (eqb a reg.ctrl_hum) || (facts kind).humidity) && reg.is_writable a
