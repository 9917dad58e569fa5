-- The device as a history leaves it: what was written, and what of it has taken effect. Nothing here looks at a machine.
use Rattle.std.specs.Prelude.{ℕ, ◌+◌, ◌-◌, ◌/◌, ◌%◌, Bool, true, false, cond, ◌&&◌, ◌||◌, List, [], ◌∷◌, eqb, None, Some}
use Rattle.kinds.specs.declared.Kind.{Kind}
use Rattle.kinds.specs.Chips.{facts}
use Rattle.machine.specs.declared.Phase.{Phase}
use Rattle.machine.specs.declared.Phase.TheVariants.{Sleep, Forced, Normal, Standby}
use Rattle.machine.specs.declared.Codes.{Codes}
use Rattle.machine.specs.declared.Device.{Device}
use Rattle.ledger.specs.Happening.{Change, copied, wrote_f2, wrote_f5, held_f4, took_f4, Happening, began, finished, lost, opened, gave, closed, changed}

-- ---- phases, and the modes that F4 asks for in its low two bits

abbrev pub is_sleep : Phase → Bool
is_sleep Sleep = true
is_sleep Forced = false
is_sleep Normal = false
is_sleep Standby = false

abbrev pub is_converting : Phase → Bool
is_converting Sleep = false
is_converting Forced = true
is_converting Normal = true
is_converting Standby = false

abbrev pub is_forced : Phase → Bool
is_forced Sleep = false
is_forced Forced = true
is_forced Normal = false
is_forced Standby = false

abbrev pub is_standby : Phase → Bool
is_standby Sleep = false
is_standby Forced = false
is_standby Normal = false
is_standby Standby = true

abbrev pub asks_normal : ℕ → Bool
asks_normal v = eqb (v % 4) 3

-- 1 or 2 begins a forced conversion; 3 begins a conversion from sleep, and in standby leaves the standby running
abbrev pub begins_by : Phase → ℕ → Bool
begins_by p v = (eqb (v % 4) 1 || eqb (v % 4) 2) || (asks_normal v && is_sleep p)

-- ---- what each happening leaves

abbrev pub zero_codes : Codes
zero_codes = record { temperature = 0; pressure = 0; humidity = 0 }

-- in the fresh state, and after a reset or power event
abbrev pub freshly : Kind → Device
freshly kind = record { kind = kind; phase = Sleep; copying = true; f2 = 0; f4 = 0; f5 = 0; held = None; codes = zero_codes }

-- temperature's code is in F4's upper three bits, pressure's in the three below, humidity's in F2; without humidity it is 0
abbrev pub codes_by : Kind → ℕ → ℕ → Codes
codes_by kind f4 f2 = record { temperature = f4 / 32; pressure = f4 / 4 % 8; humidity = cond (facts kind).humidity f2 0 }

-- F2 keeps its low three bits, F5 drops bit 1. F4 takes effect: the codes are latched, humidity's from F2 as it is then; but for mode 3 in standby the device goes
-- to sleep, before it begins a conversion if it does.
abbrev pub changes : Change → Device → Device
changes copied d = record { kind = d.kind; phase = d.phase; copying = false; f2 = d.f2; f4 = d.f4; f5 = d.f5; held = d.held; codes = d.codes }
changes (wrote_f2 v) d = record { kind = d.kind; phase = d.phase; copying = d.copying; f2 = v % 8; f4 = d.f4; f5 = d.f5; held = d.held; codes = d.codes }
changes (wrote_f5 v) d = record { kind = d.kind; phase = d.phase; copying = d.copying; f2 = d.f2; f4 = d.f4; f5 = v - v % 4 + v % 2; held = d.held; codes = d.codes }
changes (held_f4 v) d = record { kind = d.kind; phase = d.phase; copying = d.copying; f2 = d.f2; f4 = d.f4; f5 = d.f5; held = Some v; codes = d.codes }
changes (took_f4 v) d =
    let p = cond (asks_normal v && is_standby d.phase) Standby Sleep in
    record { kind = d.kind; phase = p; copying = d.copying; f2 = d.f2; f4 = v; f5 = d.f5; held = None; codes = codes_by d.kind v d.f2 }

-- a conversion begins: normal in standby, and in sleep as F4 asks; the copying of the calibration starts
abbrev pub begins : Device → Device
begins d = record {
  kind = d.kind;
  phase = cond (is_standby d.phase || asks_normal d.f4) Normal Forced;
  copying = true;
  f2 = d.f2;
  f4 = d.f4;
  f5 = d.f5;
  held = d.held;
  codes = d.codes;
}

-- forced goes to sleep with F4's mode bits cleared, normal to standby; what was held is held no more
abbrev pub finishes : Device → Device
finishes d = let forced = is_forced d.phase in record {
  kind = d.kind;
  phase = cond forced Sleep Standby;
  copying = d.copying;
  f2 = d.f2;
  f4 = cond forced (d.f4 - d.f4 % 4) d.f4;
  f5 = d.f5;
  held = None;
  codes = d.codes;
}

abbrev pub device_in : {kind : Kind} → List (Happening kind) → Device
device_in {kind} [] = freshly kind
device_in (began ∷ h) = begins (device_in h)
device_in (finished t p u ∷ h) = finishes (device_in h)
device_in {kind} (lost ∷ h) = freshly kind
device_in (opened a ∷ h) = device_in h
device_in (gave v ∷ h) = device_in h
device_in (closed ∷ h) = device_in h
device_in (changed x ∷ h) = changes x (device_in h)
