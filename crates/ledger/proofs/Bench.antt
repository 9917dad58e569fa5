-- K12 and K13 read off their histories, and one longer history, worked out in docs/LEDGER.md.
use Prim.Native.Nat.{ℕ}
use mathlib.Core.Path.{◌≡◌, refl}
use mathlib.Core.Bool.{Bool, true, false}
use mathlib.Core.List.{List, [], ◌∷◌, ◌++◌}
use lib.ListN.{length}
use Rattle.paper.specs.Registers as reg
use Rattle.kinds.specs.declared.Kind.{Kind}
use Rattle.kinds.specs.declared.Kind.TheVariants.{Bme280, Bmp280}
use Rattle.machine.specs.declared.Codes.{Codes}
use Rattle.machine.specs.State.{fresh}
use Rattle.machine.specs.Control.{effect, held_effect}
use Rattle.machine.specs.Data.{stored}
use Rattle.machine.specs.Events.{showing, keeping, delivering, waiting_shown, closed}
use Rattle.machine.specs.declared.Event.{Event}
use Rattle.machine.specs.declared.Event.TheVariants.{Copied, Write, Finish, Wake, Open, Byte, Close}
use Rattle.machine.specs.Event.{after}
use Rattle.machine.specs.Bench.{lent}
use Rattle.ledger.specs.Happening as hap
use Rattle.ledger.specs.Happening.{took_f4, Happening, began, finished, lost, opened, gave, changed}
use Rattle.ledger.specs.Bytes.{data_bytes}
use Rattle.ledger.specs.History.{given_in, whole_in, delivered, overwritten, abandoned, standing}
use Rattle.ledger.specs.Added.{history}

abbrev three : List Event
three = Byte ∷ Byte ∷ Byte ∷ []

abbrev eight : List Event
eight = three ++ three ++ Byte ∷ Byte ∷ []

-- copied, write F4 0x27, copied, finish, wake, copied, open F7, finish, some bytes
abbrev unclosed : List Event → List Event
unclosed bytes = Copied ∷ Write reg.ctrl_meas 0x27 ∷ Copied ∷ Finish 519888 415148 0 ∷ Wake ∷ Copied ∷ Open reg.first_data ∷ Finish 1 2 3 ∷ [] ++ bytes

-- and close
abbrev measured_twice : List Event → List Event
measured_twice bytes = unclosed bytes ++ Close (length lent) ∷ []

-- 0x27: temperature and pressure once each, humidity skipped
abbrev codes : Codes
codes = record { temperature = 1; pressure = 1; humidity = 0 }

first-bytes : data_bytes Bme280 codes 519888 415148 0 ≡ 0x65 ∷ 0x5A ∷ 0xC0 ∷ 0x7E ∷ 0xED ∷ 0x00 ∷ 0x80 ∷ 0x00 ∷ []
unfolding data_bytes
first-bytes = refl

second-bytes : data_bytes Bme280 codes 1 2 3 ≡ 0x00 ∷ 0x00 ∷ 0x20 ∷ 0x00 ∷ 0x00 ∷ 0x10 ∷ 0x80 ∷ 0x00 ∷ []
unfolding data_bytes
second-bytes = refl

-- temperature skipped: its count is left out; and a count of 0x80000 in pressure is a count like any other
skipped-bytes : data_bytes Bme280 (record { temperature = 0; pressure = 1; humidity = 5 }) 0xFFFFF 0x80000 0xABCD ≡ 0x80 ∷ 0x00 ∷ 0x00 ∷ 0x80 ∷ 0x00 ∷ 0x00 ∷ 0xAB ∷ 0xCD ∷ []
unfolding data_bytes
skipped-bytes = refl

-- up to the burst's bytes, the latest first
abbrev started : List (Happening Bme280)
started =
    finished 1 2 3 ∷ opened reg.first_data ∷ changed hap.copied ∷ began ∷ finished 519888 415148 0
    ∷ changed hap.copied ∷ began ∷ changed (took_f4 0x27) ∷ changed hap.copied ∷ []

-- ---- K12: number 1 is delivered, and number 2 stands, shown unread

abbrev k12 : List (Happening Bme280)
k12 =
    hap.closed ∷ gave 0x00 ∷ gave 0x80 ∷ gave 0x00 ∷ gave 0xED ∷ gave 0x7E ∷ gave 0xC0 ∷ gave 0x5A ∷ gave 0x65 ∷ started

K12-history : history Bme280 (measured_twice eight) ≡ k12
unfolding effect held_effect stored showing keeping delivering waiting_shown
K12-history = refl

-- its bytes are at F7 to FE
K12-given : given_in (history Bme280 (unclosed eight)) ≡ (0xFE, 0x00) ∷ (0xFD, 0x80) ∷ (0xFC, 0x00) ∷ (0xFB, 0xED) ∷ (0xFA, 0x7E) ∷ (0xF9, 0xC0) ∷ (0xF8, 0x5A) ∷ (0xF7, 0x65) ∷ []
unfolding effect held_effect stored showing keeping delivering waiting_shown
K12-given = refl

-- a burst opened at F5 gives F5, F6 and F7
from-f5 : given_in (history Bme280 (Copied ∷ Open reg.config ∷ [] ++ three)) ≡ (0xF7, 0x80) ∷ (0xF6, 0x00) ∷ (0xF5, 0x00) ∷ []
from-f5 = refl

-- the four places of a conversion: delivered, overwritten, abandoned, standing
abbrev four_places : {kind : Kind} → List (Happening kind) → ℕ → List Bool
four_places h k = delivered h k ∷ overwritten h k ∷ abandoned h k ∷ standing h k ∷ []

K12-first : four_places k12 1 ≡ true ∷ false ∷ false ∷ false ∷ []
unfolding whole_in
K12-first = refl

K12-second : four_places k12 2 ≡ false ∷ false ∷ false ∷ true ∷ []
unfolding whole_in
K12-second = refl

-- ---- K13: number 1 is overwritten, and number 2 stands

abbrev k13 : List (Happening Bme280)
k13 = hap.closed ∷ gave 0xC0 ∷ gave 0x5A ∷ gave 0x65 ∷ started

K13-history : history Bme280 (measured_twice three) ≡ k13
unfolding effect held_effect stored showing keeping delivering waiting_shown
K13-history = refl

K13-first : four_places k13 1 ≡ false ∷ true ∷ false ∷ false ∷ []
unfolding whole_in
K13-first = refl

K13-second : four_places k13 2 ≡ false ∷ false ∷ false ∷ true ∷ []
unfolding whole_in
K13-second = refl

-- ---- K12, then two bursts of number 2, a wake, and a reset: the repeat is no second delivery, and number 3 is abandoned

abbrev burst : List Event
burst = Open reg.first_data ∷ [] ++ eight ++ Close (length lent) ∷ []

abbrev worked : List Event
worked = measured_twice eight ++ burst ++ burst ++ Wake ∷ Write reg.reset reg.reset_word ∷ []

abbrev read : List (Happening Bme280)
read = hap.closed ∷ gave 0x00 ∷ gave 0x80 ∷ gave 0x10 ∷ gave 0x00 ∷ gave 0x00 ∷ gave 0x20 ∷ gave 0x00 ∷ gave 0x00 ∷ opened reg.first_data ∷ []

worked-history : history Bme280 worked ≡ lost ∷ began ∷ [] ++ read ++ read ++ k12
unfolding effect held_effect stored showing keeping delivering waiting_shown
worked-history = refl

worked-second : four_places (history Bme280 worked) 2 ≡ true ∷ false ∷ false ∷ false ∷ []
unfolding effect held_effect stored showing keeping delivering waiting_shown whole_in
worked-second = refl

worked-third : four_places (history Bme280 worked) 3 ≡ false ∷ false ∷ true ∷ false ∷ []
unfolding effect held_effect stored showing keeping delivering waiting_shown whole_in
worked-third = refl

-- the kept counts
worked-ledger : (after (fresh Bme280) worked).ledger ≡ record { begun = 3; delivered = 2; overwritten = 0; abandoned = 1; standing = 0 }
unfolding effect held_effect stored showing keeping delivering waiting_shown
worked-ledger = refl

-- the second burst of number 2 says that it was delivered before
worked-repeat : (closed (after (fresh Bme280) (measured_twice eight ++ burst ++ Open reg.first_data ∷ [] ++ eight)) lent).0.delivered ≡ true
unfolding effect held_effect stored showing keeping delivering waiting_shown
worked-repeat = refl

-- ---- a BMP280: K12 with six bytes. Number 1 is delivered, and number 2 stands, shown unread

abbrev six : List Event
six = three ++ three

abbrev of_six : List Event
of_six = unclosed six ++ Close 6 ∷ []

-- no humidity is stored, whatever its count
six-bytes : data_bytes Bmp280 codes 519888 415148 0xABCD ≡ 0x65 ∷ 0x5A ∷ 0xC0 ∷ 0x7E ∷ 0xED ∷ 0x00 ∷ 0x00 ∷ 0x00 ∷ []
unfolding data_bytes
six-bytes = refl

six-first : four_places (history Bmp280 of_six) 1 ≡ true ∷ false ∷ false ∷ false ∷ []
unfolding effect held_effect stored showing keeping delivering waiting_shown whole_in
six-first = refl

six-second : four_places (history Bmp280 of_six) 2 ≡ false ∷ false ∷ false ∷ true ∷ []
unfolding effect held_effect stored showing keeping delivering waiting_shown whole_in
six-second = refl

six-ledger : (after (fresh Bmp280) of_six).ledger ≡ record { begun = 2; delivered = 1; overwritten = 0; abandoned = 0; standing = 1 }
unfolding effect held_effect stored showing keeping delivering waiting_shown
six-ledger = refl

-- the same six bytes of a BME280 are partial, and deliver nothing
six-of-eight : four_places (history Bme280 (unclosed six ++ Close 8 ∷ [])) 1 ≡ false ∷ true ∷ false ∷ false ∷ []
unfolding effect held_effect stored showing keeping delivering waiting_shown whole_in
six-of-eight = refl
