-- A field that is set to what it was leaves all as it was.
use mathlib.Core.Path.{refl}
use Rattle.machine.specs.declared.Device.{Device}
use Rattle.machine.specs.declared.Machine.{Machine}
use Rattle.machine.specs.Fields.{DeviceStays, MachineStays}

pub device-stays : (d : Device) → DeviceStays d
device-stays d = record { phase = refl; copying = refl; f2 = refl; f4 = refl; f5 = refl; held = refl; codes = refl }

pub machine-stays : (m : Machine) → MachineStays m
machine-stays m = record { device = refl; burst = refl; shown = refl; waiting = refl; ledger = refl }
