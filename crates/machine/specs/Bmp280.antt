-- The kind of part: every event keeps it, and what a BMP280 has of its own (proofs/Bmp280.antt).
use Rattle.std.specs.Prelude.{ℕ, ◌≤◌, ◌≡◌, true, false, List, [], ◌∷◌, ◌++◌, drop}
use Rattle.paper.specs.Numbers.{wrong_length, burst_is_open, address_not_allowed, out_of_range}
use Rattle.kinds.specs.declared.Kind.TheVariants.{Bmp280}
use Rattle.machine.specs.declared.Codes.{Codes}
use Rattle.machine.specs.declared.Machine.{Machine}
use Rattle.machine.specs.declared.Outcome.{Outcome}
use Rattle.machine.specs.declared.Event.{Event}
use Rattle.machine.specs.declared.Event.TheVariants.{Power, Copied, Write, Finish, Open, Byte, Close}
use Rattle.machine.specs.State.{fresh, is_open}
use Rattle.machine.specs.Control.{latched}
use Rattle.machine.specs.Data.{register}
use Rattle.machine.specs.Events.{byte_given, closed}
use Rattle.machine.specs.Event.{stepped, next, answer, after}

-- whatever the event and the state
pub record KindStays (m : Machine) (e : Event) : Type 0 where
  pub kind-is : (next m e).device.kind ≡ m.device.kind

-- ---- of every BMP280, in whatever state

pub record WithoutHumidity (m : Machine) : Type 0 where
  -- 0xD0 gives 0x58
  pub id-is : register 0xD0 m ≡ 0x58
  -- F2, FD, FE and the addresses of block two, 0xE1 to 0xE7, read 0
  pub no-f2 : register 0xF2 m ≡ 0
  pub no-fd : register 0xFD m ≡ 0
  pub no-fe : register 0xFE m ≡ 0
  pub no-block-two : (a : ℕ) → 0xE1 ≤ a → a ≤ 0xE7 → register a m ≡ 0
  -- F4 latches 0 for humidity, whatever stands in F2's place
  pub latches-0 : (v : ℕ) → (latched m.device v).humidity ≡ 0
  -- a write to F2 is 4, once no burst is open
  pub f2-refused : is_open m.burst ≡ false → (v : ℕ) → answer m (Write 0xF2 v) ≡ address_not_allowed
  -- and no buffer but one of six bytes will do
  pub wants-six : is_open m.burst ≡ true → (n : ℕ) → (n ≡ 6 → ⊥) → answer m (Close n) ≡ wrong_length

-- ---- of a BMP280 after every list of events, and of what the next event hands back

-- the third code is 0, and so are the two places past the six bytes
pub record ThirdIsZero (c : Codes) (bytes : List ℕ) : Type 0 where
  pub code : c.humidity ≡ 0
  pub past : drop 6 bytes ≡ 0 ∷ 0 ∷ []

pub record NoThird (es : List Event) : Type 0 where
  pub latched-is : (after (fresh Bmp280) es).device.codes.humidity ≡ 0
  pub shown-is : let c = (after (fresh Bmp280) es).shown in ThirdIsZero c.codes c.bytes
  pub waiting-is : let c = (after (fresh Bmp280) es).waiting in ThirdIsZero c.codes c.bytes
  pub handed-back : (e : Event) → let o = stepped (after (fresh Bmp280) es) e in ThirdIsZero o.codes o.bytes

-- ---- examples

-- once the calibration is copied
abbrev ready : List Event → Machine
ready es = after (fresh Bmp280) (Copied ∷ es)

-- F4 0x27 begins a conversion, whose third count is in range
abbrev measured : List Event
measured = Write 0xF4 0x27 ∷ Copied ∷ Finish 519888 415148 30000 ∷ []

-- it is read from F7 on, and the burst is closed over six bytes
abbrev read : List Event → Outcome × List ℕ
read bytes = closed (ready (measured ++ Open 0xF7 ∷ bytes)) (1 ∷ 2 ∷ 3 ∷ 4 ∷ 5 ∷ 6 ∷ [])

abbrev five : List Event
five = Byte ∷ Byte ∷ Byte ∷ Byte ∷ Byte ∷ []

-- the same with nothing measured
abbrev empty : Outcome × List ℕ
empty = closed (ready (Open 0xF7 ∷ Byte ∷ five)) (1 ∷ 2 ∷ 3 ∷ 4 ∷ 5 ∷ 6 ∷ [])

pub record Examples : Type 0 where
  -- F7 to FC are whole, and six bytes are written
  pub six-are-whole : (read (Byte ∷ five)).0.whole ≡ true
  pub six-written : (read (Byte ∷ five)).1 ≡ 0x65 ∷ 0x5A ∷ 0xC0 ∷ 0x7E ∷ 0xED ∷ 0x00 ∷ []
  -- the third code is 0, and the places past the six bytes too
  pub third-is-0 : (read (Byte ∷ five)).0.codes ≡ record { temperature = 1; pressure = 1; humidity = 0 }
  pub past-is-0 : (read (Byte ∷ five)).0.bytes ≡ 0x65 ∷ 0x5A ∷ 0xC0 ∷ 0x7E ∷ 0xED ∷ 0x00 ∷ 0x00 ∷ 0x00 ∷ []
  -- five are not whole, and nothing is written
  pub five-are-partial : (read five).0.whole ≡ false
  pub none_written : (read five).1 ≡ 1 ∷ 2 ∷ 3 ∷ 4 ∷ 5 ∷ 6 ∷ []
  -- nothing shown: the fresh bytes
  pub nothing-shown : empty.1 ≡ 0x80 ∷ 0x00 ∷ 0x00 ∷ 0x80 ∷ 0x00 ∷ 0x00 ∷ []
  pub nothing-past : empty.0.bytes ≡ 0x80 ∷ 0x00 ∷ 0x00 ∷ 0x80 ∷ 0x00 ∷ 0x00 ∷ 0x00 ∷ 0x00 ∷ []
  -- the third count is checked
  pub third-is-checked : answer (ready (Write 0xF4 0x27 ∷ Copied ∷ [])) (Finish 0 0 0x10000) ≡ out_of_range
  -- 4 comes before 5, and 3 before 4
  pub f2-while-copying : answer (fresh Bmp280) (Write 0xF2 1) ≡ address_not_allowed
  pub f2-in-a-burst : answer (ready (Open 0xF7 ∷ [])) (Write 0xF2 1) ≡ burst_is_open
  -- after a reset and after power it is a BMP280 still
  pub id-after-reset : (byte_given (ready (Write 0xE0 0xB6 ∷ Open 0xD0 ∷ []))).value ≡ 0x58
  pub id-after-power : (byte_given (ready (Power ∷ Open 0xD0 ∷ []))).value ≡ 0x58
