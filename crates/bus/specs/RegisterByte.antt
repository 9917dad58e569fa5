-- The register byte: what a bus does to it, and which a write can have there.
use Rattle.std.specs.Prelude.{ℕ, ◌+◌, ◌%◌, ltb, Bool, true}
use Rattle.paper.specs.Registers.{is_writable}
use Rattle.bus.specs.declared.Bus.{Bus}
use Rattle.bus.specs.declared.Bus.TheVariants.{I2c, Spi}
use Rattle.bus.specs.declared.register.Change.{Change}
use Rattle.bus.specs.declared.register.Change.TheVariants.{Keep, ClearBit7, SetBit7}

abbrev pub bit7 : ℕ
bit7 = 0x80

abbrev pub changed : Change → ℕ → ℕ
changed Keep register = register
changed ClearBit7 register = register % bit7
changed SetBit7 register = register % bit7 + bit7

-- I2C carries the register as it is; SPI writes send it with bit 7 clear, and decoding sets bit 7 again
abbrev pub sending : Bus → Change
sending I2c = Keep
sending Spi = ClearBit7

abbrev pub receiving : Bus → Change
receiving I2c = Keep
receiving Spi = SetBit7

-- the register bytes that a write can have on the bus
abbrev pub is_carried : Bus → ℕ → Bool
is_carried I2c byte = true
is_carried Spi byte = ltb byte bit7

-- whether the register that a byte means once changed may be written
abbrev pub is_changed_writable : Change → ℕ → Bool
is_changed_writable change byte = is_writable (changed change byte)
