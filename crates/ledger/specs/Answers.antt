-- What each event hands back after a history: the number, by the paper's checks in their order, the register that a byte gives, and whether a close is whole.
use Rattle.std.specs.Prelude.{ℕ, ◌+◌, ◌-◌, ◌*◌, Bool, true, false, not, cond, ◌&&◌, ◌||◌, List, [], ◌∷◌, eqb, leb, ltb, get_or, length, Option, None, Some}
use Rattle.paper.specs.Numbers.{done, ignored, wrong_length, burst_is_open, address_not_allowed, still_copying, wrong_phase, out_of_range, all_begun}
use Rattle.kinds.specs.declared.Kind.{Kind}
use Rattle.kinds.specs.Chips.{facts}
use Rattle.machine.specs.declared.Phase.{Phase}
use Rattle.machine.specs.declared.Event.{Event}
use Rattle.machine.specs.declared.Event.TheVariants.{Power, Copied, Write, Finish, Wake, Open, Byte, Close}
use Rattle.ledger.specs.Happening.{Happening}
use Rattle.ledger.specs.Device.{is_sleep, is_converting, is_standby, begins_by, finishes, device_in}
use Rattle.ledger.specs.History.{begun_in, open_in, opened_at, given_in, whole_in, shown_by, bit}

-- ---- the number

-- the first check that fails decides; each has the number for its failing
abbrev pub first_of : List (Bool × ℕ) → ℕ
first_of [] = done
first_of (x ∷ l) = cond x.0 x.1 (first_of l)

abbrev pub phase_in : {kind : Kind} → List (Happening kind) → Phase
phase_in h = (device_in h).phase

-- as many as can be numbered have begun
abbrev pub all_begun_in : {kind : Kind} → List (Happening kind) → Bool
all_begun_in h = eqb (begun_in h) 4294967295

abbrev pub holds : Option ℕ → Bool
holds None = false
holds (Some v) = true

-- what is held begins a conversion in the phase p
abbrev pub held_begins : Option ℕ → Phase → Bool
held_begins None p = false
held_begins (Some v) p = begins_by p v

-- E0 takes B6 alone, F5 is taken in sleep alone, and F4 is held during a conversion if none is held
abbrev pub ignores_write : {kind : Kind} → List (Happening kind) → ℕ → ℕ → Bool
ignores_write h a v =
    (eqb a 0xE0 && not (eqb v 0xB6))
    || ((eqb a 0xF5 && not (is_sleep (phase_in h)))
    || (eqb a 0xF4 && (is_converting (phase_in h) && holds (device_in h).held)))

-- F4 takes effect unless a conversion is running
abbrev pub begins_write : {kind : Kind} → List (Happening kind) → ℕ → ℕ → Bool
begins_write h a v = eqb a 0xF4 && (not (is_converting (phase_in h)) && begins_by (phase_in h) v)

-- F2, F4 and F5 may be written except where something is being copied and no conversion is running
abbrev pub may_write_in : {kind : Kind} → List (Happening kind) → Bool
may_write_in h = not ((device_in h).copying && not (is_converting (phase_in h)))

-- a conversion may finish while it is running, once nothing is being copied
abbrev pub may_finish_in : {kind : Kind} → List (Happening kind) → Bool
may_finish_in h = is_converting (phase_in h) && not (device_in h).copying

-- the part has F2, or a is another register
abbrev pub has_register : Kind → ℕ → Bool
has_register kind a = not (eqb a 0xF2) || (facts kind).humidity

-- the address that the open burst gives next: the one that was asked for, and one more for each byte given since
abbrev pub address_in : {kind : Kind} → List (Happening kind) → ℕ
address_in h = opened_at h + length (given_in h)

abbrev pub number_in : {kind : Kind} → List (Happening kind) → Event → ℕ
number_in h Power = done
number_in h Copied = first_of ((not (device_in h).copying, wrong_phase) ∷ [])
number_in {kind} h (Write a v) =
    first_of (
    (open_in h, burst_is_open)
    ∷ (not (has_register kind a && (eqb a 0xF2 || (eqb a 0xF4 || (eqb a 0xF5 || eqb a 0xE0)))), address_not_allowed)
    ∷ (not (eqb a 0xE0) && not (may_write_in h), still_copying)
    ∷ (begins_write h a v && all_begun_in h, all_begun)
    ∷ (ignores_write h a v, ignored) ∷ [])
number_in h (Finish t p u) =
    first_of (
    (not (may_finish_in h), wrong_phase)
    ∷ (not (ltb t 0x100000 && (ltb p 0x100000 && ltb u 0x10000)), out_of_range)
    ∷ (held_begins (device_in h).held (finishes (device_in h)).phase && all_begun_in h, all_begun) ∷ [])
number_in h Wake = first_of ((not (is_standby (phase_in h)), wrong_phase) ∷ (all_begun_in h, all_begun) ∷ [])
number_in h (Open a) = first_of ((open_in h, burst_is_open) ∷ (not (leb 0x80 a && leb a 0xFF), address_not_allowed) ∷ [])
number_in h Byte = first_of ((not (open_in h), wrong_phase) ∷ (ltb 0xFF (address_in h), address_not_allowed) ∷ [])
number_in {kind} h (Close n) = first_of ((not (open_in h), wrong_phase) ∷ (not (eqb n (facts kind).bytes), wrong_length) ∷ [])

-- ---- the register

-- bit 3 running, bit 0 copying
abbrev pub status_in : {kind : Kind} → List (Happening kind) → ℕ
status_in h = 8 * bit (is_converting (phase_in h)) + bit (device_in h).copying

-- the data byte at the address a, from F7 on, of the conversion that the burst shows
abbrev pub data_in : {kind : Kind} → List (Happening kind) → ℕ → ℕ
data_in h a = get_or (shown_by h).bytes (a - 0xF7) 0

-- the part's id, its control registers and its data; every other address gives 0, and so does F2 where it isn't there
abbrev pub register_in : {kind : Kind} → List (Happening kind) → ℕ → ℕ
register_in {kind} h a =
    cond (eqb a 0xD0) (facts kind).id
    (cond (eqb a 0xF2) (cond (facts kind).humidity (device_in h).f2 0)
    (cond (eqb a 0xF3) (status_in h)
    (cond (eqb a 0xF4) (device_in h).f4
    (cond (eqb a 0xF5) (device_in h).f5
    (cond (leb 0xF7 a && leb a (facts kind).last) (data_in h a) 0)))))

-- ---- what else an event hands back

-- a byte that is done has the register's value
abbrev pub value_in : {kind : Kind} → List (Happening kind) → Event → ℕ
value_in h Power = 0
value_in h Copied = 0
value_in h (Write a v) = 0
value_in h (Finish t p u) = 0
value_in h Wake = 0
value_in h (Open a) = 0
value_in h Byte = cond (eqb (number_in h Byte) done) (register_in h (address_in h)) 0
value_in h (Close n) = 0

-- a close that is done is whole if all of the data bytes were given
abbrev pub whole_by : {kind : Kind} → List (Happening kind) → Event → Bool
whole_by h Power = false
whole_by h Copied = false
whole_by h (Write a v) = false
whole_by h (Finish t p u) = false
whole_by h Wake = false
whole_by h (Open a) = false
whole_by h Byte = false
whole_by h (Close n) = eqb (number_in h (Close n)) done && whole_in h
