-- Devices: at one of two addresses on I2C, selected by its own line on SPI.
use Rattle.std.specs.Prelude.{ℕ, ◌*◌, ◌/◌, eqb, Bool, true, ◌||◌, List, [], ◌∷◌}
use Rattle.paper.specs.Registers as reg
use Rattle.bus.specs.declared.Bus.{Bus}
use Rattle.bus.specs.declared.Bus.TheVariants.{I2c, Spi}
use Rattle.bus.specs.declared.Device.{Device}
use Rattle.bus.specs.declared.Device.TheVariants.{At, Selected}

abbrev pub bus_of : Device → Bus
bus_of (At address) = I2c
bus_of Selected = Spi

abbrev pub is_address : ℕ → Bool
is_address address = eqb address reg.i2c_low || eqb address reg.i2c_high

-- 4 is for any other address
abbrev pub is_device : Device → Bool
is_device (At address) = is_address address
is_device Selected = true

-- ---- what a write has before its pairs: on I2C the address doubled

abbrev pub leading : Device → List ℕ
leading (At address) = address * 2 ∷ []
leading Selected = []

abbrev pub leading_length : Bus → ℕ
leading_length I2c = 1
leading_length Spi = 0

-- EC or EE
abbrev pub is_doubled : ℕ → Bool
is_doubled byte = eqb byte (reg.i2c_low * 2) || eqb byte (reg.i2c_high * 2)

-- whether a write on the bus can have this first byte
abbrev pub is_led : Bus → ℕ → Bool
is_led I2c first = is_doubled first
is_led Spi first = true

-- the device that a write with this first byte is for
abbrev pub addressed : Bus → ℕ → Device
addressed I2c first = At (first / 2)
addressed Spi first = Selected

-- the values that say which device: on I2C its address
abbrev pub addresses : Device → List ℕ
addresses (At address) = address ∷ []
addresses Selected = []
