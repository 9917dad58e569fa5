-- What holds of each happening in a history of the machine, and what it makes of the codes.
use Prim.Native.Nat.{ℕ, ◌≤◌, ◌<◌}
use mathlib.Core.Path.{◌≡◌}
use mathlib.Core.Bool.{true}
use mathlib.Core.List.{List, [], ◌∷◌}
use native.Mathlib.Omega.{arith}
use Rattle.std.specs.Prelude.{Option, None, Some}
use Rattle.laws.specs.Choices.{pick}
use Rattle.data.specs.RoundTrip.{InRange}
use Rattle.kinds.specs.declared.Kind.{Kind}
use Rattle.kinds.specs.Chips.{facts}
use Rattle.machine.specs.declared.Codes.{Codes}
use Rattle.machine.specs.declared.Device.{Device}
use Rattle.ledger.specs.Happening.{Change, copied, wrote_f2, wrote_f5, held_f4, took_f4, Happening, began, finished, lost, opened, gave, closed, changed}
use Rattle.ledger.specs.Device.{is_converting, codes_by, changes, device_in}
use Rattle.ledger.specs.History.{codes_in}

-- an F4 byte is a byte
abbrev pub GoodChange : Change → Type 0
GoodChange copied = Unit {0}
GoodChange (wrote_f2 v) = Unit {0}
GoodChange (wrote_f5 v) = Unit {0}
GoodChange (held_f4 v) = v < 256
GoodChange (took_f4 v) = v < 256

-- what finishes was running, and its counts are in range
abbrev pub Good : {kind : Kind} → Happening kind → List (Happening kind) → Type 0
Good began h = Unit {0}
Good (finished t p u) h = (is_converting (device_in h).phase ≡ true) × InRange (record { temperature = t; pressure = p; humidity = u })
Good lost h = Unit {0}
Good (opened a) h = Unit {0}
Good (gave v) h = Unit {0}
Good closed h = Unit {0}
Good (changed x) h = GoodChange x

abbrev pub Sound : {kind : Kind} → List (Happening kind) → Type 0
Sound [] = Unit {0}
Sound (x ∷ h) = Good x h × Sound h

-- ---- codes are of 0 to 7

pub record CodesFit (c : Codes) : Type 0 where
  pub temperature : c.temperature ≤ 7
  pub pressure : c.pressure ≤ 7
  pub humidity : c.humidity ≤ 7

abbrev pub HeldFits : Option ℕ → Type 0
HeldFits None = Unit {0}
HeldFits (Some v) = v < 256

pub record DeviceFits (d : Device) : Type 0 where
  pub f2 : d.f2 ≤ 7
  pub held : HeldFits d.held
  pub codes : CodesFit d.codes

change-fits : (x : Change) (d : Device) → GoodChange x → DeviceFits d → DeviceFits (changes x d)
change-fits copied d g f = record { f2 = f.f2; held = f.held; codes = f.codes }
change-fits (wrote_f2 v) d g f = record { f2 = omega arith; held = f.held; codes = f.codes }
change-fits (wrote_f5 v) d g f = record { f2 = f.f2; held = f.held; codes = f.codes }
change-fits (held_f4 v) d g f = record { f2 = f.f2; held = g; codes = f.codes }
change-fits (took_f4 v) d g f =
    let h : (codes_by d.kind v d.f2).humidity ≤ 7 = pick (λ n. n ≤ 7) (facts d.kind).humidity (λ _. f.f2) (λ _. omega arith) in
    record { f2 = f.f2; held = tt; codes = record { temperature = omega arith; pressure = omega arith; humidity = h } }

zero-fits : CodesFit (record { temperature = 0; pressure = 0; humidity = 0 })
zero-fits = record { temperature = omega arith; pressure = omega arith; humidity = omega arith }

pub device-fits : {kind : Kind} (h : List (Happening kind)) → Sound h → DeviceFits (device_in h)
device-fits [] s = record { f2 = omega arith; held = tt; codes = zero-fits }
device-fits (began ∷ h) s = let f = device-fits h s.1 in record { f2 = f.f2; held = f.held; codes = f.codes }
device-fits (finished t p u ∷ h) s = let f = device-fits h s.1 in record { f2 = f.f2; held = tt; codes = f.codes }
device-fits (lost ∷ h) s = record { f2 = omega arith; held = tt; codes = zero-fits }
device-fits (opened a ∷ h) s = device-fits h s.1
device-fits (gave v ∷ h) s = device-fits h s.1
device-fits (closed ∷ h) s = device-fits h s.1
device-fits (changed x ∷ h) s = change-fits x (device_in h) s.0 (device-fits h s.1)

pub codes-fit : {kind : Kind} (h : List (Happening kind)) → Sound h → CodesFit (codes_in h)
codes-fit [] s = zero-fits
codes-fit (began ∷ h) s = (device-fits h s.1).codes
codes-fit (finished t p u ∷ h) s = codes-fit h s.1
codes-fit (lost ∷ h) s = codes-fit h s.1
codes-fit (opened a ∷ h) s = codes-fit h s.1
codes-fit (gave v ∷ h) s = codes-fit h s.1
codes-fit (closed ∷ h) s = codes-fit h s.1
codes-fit (changed x ∷ h) s = codes-fit h s.1
