-- Reads: the bytes that ask a device for a register.
use Rattle.std.specs.Prelude.{ℕ, ◌+◌, ◌*◌, leb, length, List, [], ◌∷◌}
use Rattle.paper.specs.Numbers as no
use Rattle.paper.specs.Answers.{Answer}
use Rattle.bus.specs.declared.Device.{Device}
use Rattle.bus.specs.declared.Device.TheVariants.{At, Selected}
use Rattle.bus.specs.declared.register.Change.TheVariants.{SetBit7}
use Rattle.paper.specs.Registers.{is_readable}
use Rattle.bus.specs.RegisterByte.{changed}
use Rattle.bus.specs.Devices.{is_device}
use Rattle.bus.specs.Lent.{check, handed}

-- on I2C two messages, the doubled address and register, then the doubled address plus one; on SPI the register with bit 7 set
abbrev pub question : Device → ℕ → List ℕ
question (At address) register = address * 2 ∷ register ∷ (address * 2 + 1) ∷ []
question Selected register = changed SetBit7 register ∷ []

-- 4 for the device address, 4 for the register, 9
unfoldable pub read_number : Device → ℕ → ℕ → ℕ → ℕ
read_number device register needed room =
    check (is_device device) no.address_not_allowed
    (check (is_readable register) no.address_not_allowed (check (leb needed room) no.buffer_too_short no.done))

unfoldable pub encoded_read : Device → ℕ → List ℕ → Answer × List ℕ
encoded_read device register lent =
    handed (read_number device register (length (question device register)) (length lent)) [] (question device register) lent
