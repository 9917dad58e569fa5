-- A dead machine does not pass, though the sum alone would let it: whatever came before, the next conversion begins, finishes with its own bytes once
-- copying has ended, is shown under its own number, and is counted; on both kinds of part, in forced mode and in normal mode, for any codes and counts
-- (proofs/Alive.antt, proofs/Held.antt, proofs/Turns.antt).
use Rattle.std.specs.Prelude.{ℕ, zero, suc, ◌+◌, ◌%◌, ◌<◌, ◌≡◌, true, false, List, [], ◌∷◌, ◌++◌, length, take, None}
use Rattle.paper.specs.Numbers.{done}
use Rattle.paper.specs.Registers as reg
use Rattle.kinds.specs.declared.Kind.{Kind}
use Rattle.kinds.specs.Chips.{facts}
use Rattle.machine.specs.declared.Phase.TheVariants.{Sleep, Forced, Normal, Standby}
use Rattle.machine.specs.declared.Codes.{Codes}
use Rattle.machine.specs.declared.Outcome.{Outcome}
use Rattle.machine.specs.declared.Ledger.{Ledger}
use Rattle.machine.specs.declared.Machine.{Machine}
use Rattle.machine.specs.State.{fresh, fresh_after}
use Rattle.machine.specs.Events.{closed}
use Rattle.machine.specs.declared.Event.{Event}
use Rattle.machine.specs.declared.Event.TheVariants.{Power, Copied, Write, Finish, Wake, Open, Byte, Close}
use Rattle.machine.specs.Event.{after}
use Rattle.ledger.specs.Happening.{Happening}
use Rattle.ledger.specs.Device.{is_converting, codes_by, device_in}
use Rattle.ledger.specs.Bytes.{data_bytes}
use Rattle.ledger.specs.History.{begun_in, open_in}
use Rattle.ledger.specs.Added.{history}

-- one turn: the bytes for F2 and F4, the three counts, and the bytes lent to the close
pub record Turn : Type 0 where
  pub f2 : ℕ
  pub f4 : ℕ
  pub temperature : ℕ
  pub pressure : ℕ
  pub humidity : ℕ
  pub lent : List ℕ

-- its counts have 20, 20 and 16 bits, and it lends as many bytes as the part has
pub record Fits (kind : Kind) (t : Turn) : Type 0 where
  pub temperature-fits : t.temperature < 0x100000
  pub pressure-fits : t.pressure < 0x100000
  pub humidity-fits : t.humidity < 0x10000
  pub lends-all : length t.lent ≡ (facts kind).bytes

-- its byte for F4 asks for forced mode, 1 or 2
pub record IsForced (t : Turn) : Type 0 where
  pub not-sleep : t.f4 % 4 ≡ 0 → ⊥
  pub not-normal : t.f4 % 4 ≡ 3 → ⊥

-- the codes that its bytes for F4 and F2 set, and the data bytes of its counts under the codes c
abbrev pub codes_of : Kind → Turn → Codes
codes_of kind t = codes_by kind t.f4 (t.f2 % 8)

abbrev pub bytes_of : Kind → Codes → Turn → List ℕ
bytes_of kind c t = take (facts kind).bytes (data_bytes kind c t.temperature t.pressure t.humidity)

-- what begins a conversion: F2 and F4 are written, in sleep, where a part without F2 refuses the first; or the device wakes, in standby
abbrev pub by_write : Turn → List Event
by_write t = Write 0xF2 t.f2 ∷ Write 0xF4 t.f4 ∷ []

abbrev pub by_wake : List Event
by_wake = Wake ∷ []

-- copying ends, and it finishes
abbrev pub finish : Turn → List Event
finish t = Copied ∷ Finish t.temperature t.pressure t.humidity ∷ []

-- n bytes
abbrev pub given : ℕ → List Event
given zero = []
given (suc n) = Byte ∷ given n

-- and it is read whole but for the close
abbrev pub measured : Kind → Turn → List Event
measured kind t = finish t ++ Open 0xF7 ∷ given (facts kind).bytes

-- one more has begun than in m, and runs, with the codes c, while the calibration is being copied
pub record Begins (m now : Machine) (c : Codes) : Type 0 where
  pub begun-is : now.ledger.begun ≡ m.ledger.begun + 1
  pub runs-now : is_converting now.device.phase ≡ true
  pub copying-now : now.device.copying ≡ true
  pub codes-are : now.device.codes ≡ c

-- the close x shows the conversion n of the turn, with the codes c, and then n have begun and d are delivered
pub record Delivers (kind : Kind) (n d : ℕ) (c : Codes) (t : Turn) (x : Outcome) (left : List ℕ) : Type 0 where
  pub answer-is : x.answer ≡ done
  pub whole_is : x.whole ≡ true
  pub number_is : x.number ≡ n
  pub codes-are : x.codes ≡ c
  pub bytes-are : left ≡ bytes_of kind c t
  pub not-before : x.delivered ≡ false
  pub begun-is : x.machine.ledger.begun ≡ n
  pub delivered-is : x.machine.ledger.delivered ≡ d

-- ---- one turn, after whatever history h that led to the machine m

-- in sleep, with nothing being copied, no burst open and room for one more; F4 asks for any mode but sleep
pub record MayBeginByWrite {kind : Kind} (h : List (Happening kind)) (t : Turn) : Type 0 where
  pub sleeps : (device_in h).phase ≡ Sleep
  pub not-copying : (device_in h).copying ≡ false
  pub none_open : open_in h ≡ false
  pub has_room : begun_in h < 4294967295
  pub asks : t.f4 % 4 ≡ 0 → ⊥

pub record WriteRunsTruly (kind : Kind) (m : Machine) (t : Turn) : Type 0 where
  pub begins : Begins m (after m (by_write t)) (codes_of kind t)
  pub delivers : let x = closed (after m (by_write t ++ measured kind t)) t.lent in
      Delivers kind (m.ledger.begun + 1) (m.ledger.delivered + 1) (codes_of kind t) t x.0 x.1

-- in standby, with no burst open and room for one more
pub record MayBeginByWake {kind : Kind} (h : List (Happening kind)) : Type 0 where
  pub stands_by : (device_in h).phase ≡ Standby
  pub none_open : open_in h ≡ false
  pub has_room : begun_in h < 4294967295

-- the codes c are those that were latched
pub record WakeRunsTruly (kind : Kind) (m : Machine) (c : Codes) (t : Turn) : Type 0 where
  pub begins : Begins m (after m by_wake) c
  pub delivers : let x = closed (after m (by_wake ++ measured kind t)) t.lent in
      Delivers kind (m.ledger.begun + 1) (m.ledger.delivered + 1) c t x.0 x.1

-- F4 in standby: mode 3 leaves the standby running and begins nothing, and the next wake begins with its codes; modes 1 and 2 begin as they do in sleep
pub record LatchRunsTruly (kind : Kind) (m : Machine) (t : Turn) : Type 0 where
  pub stands_by : (after m (by_write t)).device.phase ≡ Standby
  pub none-begins : (after m (by_write t)).ledger ≡ m.ledger
  pub begins : Begins m (after m (by_write t ++ by_wake)) (codes_of kind t)
  pub delivers : let x = closed (after m (by_write t ++ by_wake ++ measured kind t)) t.lent in
      Delivers kind (m.ledger.begun + 1) (m.ledger.delivered + 1) (codes_of kind t) t x.0 x.1

-- ---- F4 during a conversion is held, and takes effect when that one finishes

-- one is running, none is held, no burst is open, and there is room for one more; the calibration may still be being copied or not
pub record MayHold {kind : Kind} (h : List (Happening kind)) : Type 0 where
  pub runs-now : is_converting (device_in h).phase ≡ true
  pub none-held : (device_in h).held ≡ None
  pub none_open : open_in h ≡ false
  pub has_room : begun_in h < 4294967295

-- F4 asks for forced mode, or in a forced conversion for normal mode: the finish begins the next
pub record BeginsHeld {kind : Kind} (h : List (Happening kind)) (t : Turn) : Type 0 where
  pub not-sleep : t.f4 % 4 ≡ 0 → ⊥
  pub from-forced : t.f4 % 4 ≡ 3 → (device_in h).phase ≡ Forced

-- or in a normal conversion for normal mode: the finish begins none, and the next wake begins with its codes
pub record LatchesHeld {kind : Kind} (h : List (Happening kind)) (t : Turn) : Type 0 where
  pub normal : t.f4 % 4 ≡ 3
  pub from-normal : (device_in h).phase ≡ Normal

-- the write begins nothing, and leaves the running one its codes
pub record IsHeld (m : Machine) (t : Turn) : Type 0 where
  pub none-begins : (after m (by_write t)).ledger ≡ m.ledger
  pub codes-stay : (after m (by_write t)).device.codes ≡ m.device.codes

-- then the running one finishes with the counts of s
pub record HeldRunsTruly (kind : Kind) (m : Machine) (s t : Turn) : Type 0 where
  pub is_held : IsHeld m t
  pub begins : Begins m (after m (by_write t ++ finish s)) (codes_of kind t)
  pub begins-in-burst : (a : ℕ) → reg.is_readable a ≡ true → Begins m (after m (by_write t ++ Open a ∷ finish s)) (codes_of kind t)
  pub delivers : let x = closed (after m (by_write t ++ finish s ++ measured kind t)) t.lent in
      Delivers kind (m.ledger.begun + 1) (m.ledger.delivered + 1) (codes_of kind t) t x.0 x.1

pub record HeldLatchRunsTruly (kind : Kind) (m : Machine) (s t : Turn) : Type 0 where
  pub is_held : IsHeld m t
  pub none-begins : (after m (by_write t ++ finish s)).ledger.begun ≡ m.ledger.begun
  pub begins : Begins m (after m (by_write t ++ finish s ++ by_wake)) (codes_of kind t)
  pub delivers : let x = closed (after m (by_write t ++ finish s ++ by_wake ++ measured kind t)) t.lent in
      Delivers kind (m.ledger.begun + 1) (m.ledger.delivered + 1) (codes_of kind t) t x.0 x.1

-- ---- turn after turn, from the fresh state

-- in forced mode each conversion begins by a write
abbrev pub forced_turns : Kind → List Turn → List Event
forced_turns kind [] = []
forced_turns kind (t ∷ ts) = by_write t ++ measured kind t ++ Close (length t.lent) ∷ forced_turns kind ts

abbrev pub AllForced : Kind → List Turn → Type 0
AllForced kind [] = Unit {0}
AllForced kind (t ∷ ts) = Fits kind t × IsForced t × AllForced kind ts

-- in normal mode the first begins by a write and each later one by a wake
abbrev pub woken_turns : Kind → List Turn → List Event
woken_turns kind [] = []
woken_turns kind (t ∷ ts) = by_wake ++ measured kind t ++ Close (length t.lent) ∷ woken_turns kind ts

abbrev pub normal_turns : Kind → Turn → List Turn → List Event
normal_turns kind t ts = by_write t ++ measured kind t ++ Close (length t.lent) ∷ woken_turns kind ts

abbrev pub AllFit : Kind → List Turn → Type 0
AllFit kind [] = Unit {0}
AllFit kind (t ∷ ts) = Fits kind t × AllFit kind ts

-- n have begun, all are delivered, and nothing else is counted
abbrev pub all_delivered : ℕ → Ledger
all_delivered n = record { begun = n; delivered = n; overwritten = 0; abandoned = 0; standing = 0 }

-- After n turns the tally is theirs; and the next turn's close shows its own conversion, as number n + 1.
pub record ForcedTurnsRunTruly (kind : Kind) (m : Machine) (n : ℕ) : Type 0 where
  pub tally-is : m.ledger ≡ all_delivered n
  pub next-is : (t : Turn) → Fits kind t → IsForced t → n < 4294967295 → let x = closed (after m (by_write t ++ measured kind t)) t.lent in
      Delivers kind (n + 1) (n + 1) (codes_of kind t) t x.0 x.1

-- in normal mode with the codes that the first turn set
pub record NormalTurnsRunTruly (kind : Kind) (m : Machine) (n : ℕ) (c : Codes) : Type 0 where
  pub tally-is : m.ledger ≡ all_delivered n
  pub next-is : (t : Turn) → Fits kind t → n < 4294967295 → let x = closed (after m (by_wake ++ measured kind t)) t.lent in
      Delivers kind (n + 1) (n + 1) c t x.0 x.1

-- ---- a fresh state after n conversions that were all delivered

-- a turn in forced mode with every channel skipped, n times
abbrev pub plain_turn : Kind → Turn
plain_turn kind = record { f2 = 0; f4 = 1; temperature = 0; pressure = 0; humidity = 0; lent = take (facts kind).bytes (facts kind).fresh }

abbrev pub plain_turns : Kind → ℕ → List Turn
plain_turns kind zero = []
plain_turns kind (suc n) = plain_turn kind ∷ plain_turns kind n

-- n conversions are read, and a power event leaves all else fresh
abbrev pub leading_to : Kind → ℕ → List Event
leading_to kind n = Copied ∷ forced_turns kind (plain_turns kind n) ++ Power ∷ []

-- Events from that state are events from the fresh state after others that came first. So each statement on lists of events holds from there too, of that longer
-- list, and numbers go on from n.
pub record GoesOnFrom (kind : Kind) (n : ℕ) (es : List Event) : Type 0 where
  pub machine-is : after (fresh_after kind n) es ≡ after (fresh kind) (leading_to kind n ++ es)
  pub begun-is : begun_in (history kind (leading_to kind n)) ≡ n
