-- What the tests of an address say of it.
use mathlib.Core.Path.{◌≡◌}
use mathlib.Core.Bool.{true}
use Prim.Native.Nat.{ℕ, ◌<◌}
use native.Mathlib.Omega.{arith}
use lib.Dec.{eqb}
use borrow.Author.Tests.{eqb-true}
use Rattle.laws.specs.Tests.{either}
use Rattle.paper.specs.Registers as reg
use Rattle.bus.specs.declared.Device.{Device}
use Rattle.bus.specs.declared.Device.TheVariants.{At}
use Rattle.bus.specs.Devices.{is_address, is_device}

below : (address : ℕ) → is_address address ≡ true → address < 128
below address =
    either (eqb address reg.i2c_low) (eqb address reg.i2c_high)
    (λ e. omega (arith, eqb-true address reg.i2c_low e)) (λ e. omega (arith, eqb-true address reg.i2c_high e))

-- the address of a device that passes: doubled and one more, it still is a byte
pub at-below : {device : Device} {address : ℕ} → device ≡ At address → is_device device ≡ true → address < 128
at-below {address = address} e p = below address (rw e at p)
