-- The bytes that the machine stores are those that the history lays out.
use Prim.Native.Nat.{ℕ, ◌*◌, ◌/◌, ◌%◌}
use mathlib.Core.Path.{◌≡◌}
use mathlib.Core.Bool.{cond}
use mathlib.Core.List.{◌++◌}
use native.Mathlib.Omega.{arith}
use Rattle.paper.specs.Registers as reg
use Rattle.kinds.specs.Chips.{facts}
use Rattle.machine.specs.declared.Device.{Device}
use Rattle.data.specs.Counts.{laid}
use Rattle.machine.specs.Data.{kept, stored}
use Rattle.ledger.specs.Bytes.{two_bytes, three_bytes, data_bytes}

-- a count of 20 bits times 16, byte by byte
high : (n : ℕ) → n / 4096 % 256 ≡ n * 16 / 65536 % 256
high n = omega arith

middle : (n : ℕ) → n / 16 % 256 ≡ n * 16 / 256 % 256
middle n = omega arith

low : (n : ℕ) → n % 16 * 16 ≡ n * 16 % 256
low n = omega arith

laid-is : (t p h : ℕ) → laid t p h ≡ three_bytes (p * 16) ++ three_bytes (t * 16) ++ two_bytes h
laid-is t p h = cc (high p, middle p, low p, high t, middle t, low t)

pub lays : (d : Device) (t p h : ℕ) → stored d t p h ≡ data_bytes d.kind d.codes t p h
unfolding stored data_bytes
lays d t p h =
    laid-is
    (kept d.codes.temperature t reg.skipped20)
    (kept d.codes.pressure p reg.skipped20)
    (cond (facts d.kind).humidity (kept d.codes.humidity h reg.skipped16) 0)
