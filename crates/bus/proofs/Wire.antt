-- What sending does is undone by receiving, and the other way round: for one register, for every pair and for the device.
use mathlib.Core.Path.{◌≡◌, refl}
use mathlib.Core.Bool.{Bool, true}
use mathlib.Core.List.{List, [], ◌∷◌, ◌++◌}
use Prim.Native.Nat.{ℕ, ◌*◌, ◌/◌, ◌%◌, ◌≤◌, ◌<◌}
use native.Mathlib.Omega.{arith}
use lib.Dec.{eqb}
use lib.ListN.{length}
use borrow.Author.Tests.{eqb-true, lt-ltb, ltb-true}
use Rattle.laws.specs.Tests.{both, either}
use Rattle.paper.specs.Registers as reg
use Rattle.bus.specs.declared.Bus.{Bus}
use Rattle.bus.specs.declared.Bus.TheVariants.{I2c, Spi}
use Rattle.bus.specs.declared.Device.{Device}
use Rattle.bus.specs.declared.Device.TheVariants.{At, Selected}
use Rattle.bus.specs.declared.register.Change.{Change}
use Rattle.paper.specs.Registers.{is_writable}
use Rattle.bus.specs.RegisterByte.{is_carried, bit7, changed, sending, receiving}
use Rattle.bus.specs.Pairs.{every, with_registers}
use Rattle.bus.specs.Devices.{bus_of, is_device, leading, is_led, addressed}
use Rattle.bus.specs.Writing.{first_of, body}

-- ---- one register

-- a register that may be written comes back from the wire
pub back : (bus : Bus) (register : ℕ) → is_writable register ≡ true → changed (receiving bus) (changed (sending bus) register) ≡ register
back I2c register e = refl
back Spi register e =
    either (eqb register reg.ctrl_hum) _ (λ h. rw (eqb-true register reg.ctrl_hum h))
    (either (eqb register reg.ctrl_meas) _ (λ h. rw (eqb-true register reg.ctrl_meas h))
    (either (eqb register reg.config) (eqb register reg.reset) (λ h. rw (eqb-true register reg.config h)) (λ h. rw (eqb-true register reg.reset h))))
    e

-- and a byte that the wire carries is sent again
pub again : (bus : Bus) (byte : ℕ) → is_carried bus byte ≡ true → changed (sending bus) (changed (receiving bus) byte) ≡ byte
again I2c byte e = refl
again Spi byte e = let h : byte < bit7 = ltb-true byte bit7 e in omega arith

pub carried : (bus : Bus) (register : ℕ) → is_carried bus (changed (sending bus) register) ≡ true
carried I2c register = refl
carried Spi register = lt-ltb (register % bit7) bit7 (omega arith)

-- ---- every register

module _ (test : ℕ → Bool) (change : Change) where
  pub every-changed :
      (other : ℕ → Bool) → ((register : ℕ) → test register ≡ true → other (changed change register) ≡ true) →
      (s : List ℕ) → every test s ≡ true → every other (with_registers change s) ≡ true
  unfolding every with_registers
  every-changed other f [] e = refl
  every-changed other f (register ∷ []) e = f register e
  every-changed other f (register ∷ value ∷ s) e =
      let (a, rest) = both (test register) (every test s) e in
      rw (f register a) (every-changed other f s rest)

  pub undone :
      (change' : Change) → ((register : ℕ) → test register ≡ true → changed change' (changed change register) ≡ register) →
      (s : List ℕ) → every test s ≡ true → with_registers change' (with_registers change s) ≡ s
  unfolding every with_registers
  undone change' f [] e = refl
  undone change' f (register ∷ []) e = rw (f register e)
  undone change' f (register ∷ value ∷ s) e =
      let (a, rest) = both (test register) (every test s) e in
      rw (f register a, undone change' f s rest)

-- ---- the device

pub led : (device : Device) (rest : List ℕ) → is_device device ≡ true → is_led (bus_of device) (first_of (leading device ++ rest)) ≡ true
led (At address) rest e =
    either (eqb address reg.i2c_low) (eqb address reg.i2c_high)
    (λ h. rw (eqb-true address reg.i2c_low h)) (λ h. rw (eqb-true address reg.i2c_high h)) e
led Selected rest e = refl

pub after-leading : (device : Device) (rest : List ℕ) → body (bus_of device) (leading device ++ rest) ≡ rest
after-leading (At address) rest = refl
after-leading Selected rest = refl

pub same-device : (device : Device) (rest : List ℕ) → addressed (bus_of device) (first_of (leading device ++ rest)) ≡ device
same-device (At address) rest = let e : address * 2 / 2 ≡ address = omega arith in rw e
same-device Selected rest = refl

pub same-bus : (bus : Bus) (first : ℕ) → bus_of (addressed bus first) ≡ bus
same-bus I2c first = refl
same-bus Spi first = refl

pub is-device : (bus : Bus) (first : ℕ) → is_led bus first ≡ true → is_device (addressed bus first) ≡ true
is-device I2c first e =
    either (eqb first (reg.i2c_low * 2)) (eqb first (reg.i2c_high * 2))
    (λ h. rw (eqb-true first (reg.i2c_low * 2) h)) (λ h. rw (eqb-true first (reg.i2c_high * 2) h)) e
is-device Spi first e = refl

pub whole : (bus : Bus) (bytes : List ℕ) → 1 ≤ length bytes → is_led bus (first_of bytes) ≡ true → leading (addressed bus (first_of bytes)) ++ body bus bytes ≡ bytes
whole I2c [] h e = absurd (omega arith)
whole I2c (first ∷ rest) h e =
    either (eqb first (reg.i2c_low * 2)) (eqb first (reg.i2c_high * 2))
    (λ g. rw (eqb-true first (reg.i2c_low * 2) g)) (λ g. rw (eqb-true first (reg.i2c_high * 2) g)) e
whole Spi bytes h e = refl
