-- A history is the list of what happened, the latest first. The places of the ledger are read off it alone, each by the paper's own sentence:
-- nothing here looks at a machine.
use Rattle.std.specs.Prelude.{ℕ, zero, suc, ◌+◌, Bool, true, false, not, cond, ◌&&◌, ◌||◌, List, [], ◌∷◌, eqb, length}
use Rattle.paper.specs.Registers as reg
use Rattle.kinds.specs.declared.Kind.{Kind}
use Rattle.kinds.specs.Chips.{facts}
use Rattle.machine.specs.declared.Codes.{Codes}
use Rattle.ledger.specs.Happening.{Happening, began, finished, lost, opened, gave, closed, changed}
use Rattle.ledger.specs.Device.{zero_codes, device_in}
use Rattle.ledger.specs.Bytes.{data_bytes}

-- ---- conversions are numbered from 1 in order of beginning

abbrev pub begun_in : {kind : Kind} → List (Happening kind) → ℕ
begun_in [] = 0
begun_in (began ∷ h) = suc (begun_in h)
begun_in (finished t p r ∷ h) = begun_in h
begun_in (lost ∷ h) = begun_in h
begun_in (opened a ∷ h) = begun_in h
begun_in (gave v ∷ h) = begun_in h
begun_in (closed ∷ h) = begun_in h
begun_in (changed x ∷ h) = begun_in h

-- the codes that the last one began with: those latched then
abbrev pub codes_in : {kind : Kind} → List (Happening kind) → Codes
codes_in [] = zero_codes
codes_in (began ∷ h) = (device_in h).codes
codes_in (finished t p r ∷ h) = codes_in h
codes_in (lost ∷ h) = codes_in h
codes_in (opened a ∷ h) = codes_in h
codes_in (gave v ∷ h) = codes_in h
codes_in (closed ∷ h) = codes_in h
codes_in (changed x ∷ h) = codes_in h

-- ---- the burst that is open at the end

abbrev pub open_in : {kind : Kind} → List (Happening kind) → Bool
open_in [] = false
open_in (began ∷ h) = open_in h
open_in (finished t p r ∷ h) = open_in h
open_in (lost ∷ h) = false
open_in (opened a ∷ h) = true
open_in (gave v ∷ h) = open_in h
open_in (closed ∷ h) = false
open_in (changed x ∷ h) = open_in h

-- the address that it was opened at
abbrev pub opened_at : {kind : Kind} → List (Happening kind) → ℕ
opened_at [] = 0
opened_at (began ∷ h) = opened_at h
opened_at (finished t p r ∷ h) = opened_at h
opened_at (lost ∷ h) = 0
opened_at (opened a ∷ h) = a
opened_at (gave v ∷ h) = opened_at h
opened_at (closed ∷ h) = 0
opened_at (changed x ∷ h) = opened_at h

-- the registers that it has given, address and value, the latest first: the first at the address that was asked for, each later one at the next
abbrev pub given_in : {kind : Kind} → List (Happening kind) → List (ℕ × ℕ)
given_in [] = []
given_in (began ∷ h) = given_in h
given_in (finished t p r ∷ h) = given_in h
given_in (lost ∷ h) = []
given_in (opened a ∷ h) = []
given_in (gave v ∷ h) = (opened_at h + length (given_in h), v) ∷ given_in h
given_in (closed ∷ h) = []
given_in (changed x ∷ h) = given_in h

-- one of them is at the address a
abbrev pub has_address : ℕ → List (ℕ × ℕ) → Bool
has_address a [] = false
has_address a (x ∷ l) = eqb a x.0 || has_address a l

-- the test holds of each number below n
abbrev pub each_below : ℕ → (ℕ → Bool) → Bool
each_below zero f = true
each_below (suc n) f = f n && each_below n f

-- the data byte i was given, counted from 0 at F7
abbrev pub gave_data : {kind : Kind} → List (Happening kind) → ℕ → Bool
gave_data h i = has_address (reg.first_data + i) (given_in h)

-- whole: all of the part's data bytes, from F7 on, were given since it was opened
unfoldable pub whole_in : {kind : Kind} → List (Happening kind) → Bool
whole_in {kind} h = each_below (facts kind).bytes (gave_data h)

-- a conversion has finished since it was opened, and waits
abbrev pub waits_in : {kind : Kind} → List (Happening kind) → Bool
waits_in [] = false
waits_in (began ∷ h) = waits_in h
waits_in (finished t p r ∷ h) = open_in h
waits_in (lost ∷ h) = false
waits_in (opened a ∷ h) = false
waits_in (gave v ∷ h) = waits_in h
waits_in (closed ∷ h) = false
waits_in (changed x ∷ h) = waits_in h

-- ---- the conversion that a burst shows

-- number, codes and data bytes of a finished conversion
pub record Measurement : Type 0 where
  pub number : ℕ
  pub codes : Codes
  pub bytes : List ℕ

-- number 0 and codes 0 mean none, with the part's fresh bytes
abbrev pub no_measurement : Kind → Measurement
no_measurement kind = record { number = 0; codes = zero_codes; bytes = (facts kind).fresh }

-- the last conversion that finished after the last reset or power event
abbrev pub last_finished : {kind : Kind} → List (Happening kind) → Measurement
last_finished {kind} [] = no_measurement kind
last_finished (began ∷ h) = last_finished h
last_finished {kind} (finished t p r ∷ h) = record { number = begun_in h; codes = codes_in h; bytes = data_bytes kind (codes_in h) t p r }
last_finished {kind} (lost ∷ h) = no_measurement kind
last_finished (opened a ∷ h) = last_finished h
last_finished (gave v ∷ h) = last_finished h
last_finished (closed ∷ h) = last_finished h
last_finished (changed x ∷ h) = last_finished h

-- the history before a burst was last opened
abbrev pub before_opened : {kind : Kind} → List (Happening kind) → List (Happening kind)
before_opened [] = []
before_opened (began ∷ h) = before_opened h
before_opened (finished t p r ∷ h) = before_opened h
before_opened (lost ∷ h) = before_opened h
before_opened (opened a ∷ h) = h
before_opened (gave v ∷ h) = before_opened h
before_opened (closed ∷ h) = before_opened h
before_opened (changed x ∷ h) = before_opened h

-- what the open burst shows: the last that finished before it was opened
abbrev pub shown_by : {kind : Kind} → List (Happening kind) → Measurement
shown_by h = last_finished (before_opened h)

-- ---- where a conversion is

pub data Where : Type 0 where
  unbegun running waiting shown gone : Where

-- The running one finishes: it is shown, or waits while a burst is open (o). The one that it replaces is gone.
abbrev pub finishes : Bool → Where → Where
finishes o unbegun = unbegun
finishes o running = cond o waiting shown
finishes o waiting = gone
finishes o shown = cond o shown gone
finishes o gone = gone

-- The burst is closed: the waiting one is shown, and replaces the shown one if one waits (w).
abbrev pub closes : Bool → Where → Where
closes w unbegun = unbegun
closes w running = running
closes w waiting = shown
closes w shown = cond w gone shown
closes w gone = gone

-- a reset or power event leaves none
abbrev pub loses : Where → Where
loses unbegun = unbegun
loses running = gone
loses waiting = gone
loses shown = gone
loses gone = gone

abbrev pub where_is : {kind : Kind} → List (Happening kind) → ℕ → Where
where_is [] k = unbegun
where_is (began ∷ h) k = cond (eqb k (suc (begun_in h))) running (where_is h k)
where_is (finished t p r ∷ h) k = finishes (open_in h) (where_is h k)
where_is (lost ∷ h) k = loses (where_is h k)
where_is (opened a ∷ h) k = where_is h k
where_is (gave v ∷ h) k = where_is h k
where_is (closed ∷ h) k = closes (waits_in h) (where_is h k)
where_is (changed x ∷ h) k = where_is h k

abbrev pub is_running : Where → Bool
is_running unbegun = false
is_running running = true
is_running waiting = false
is_running shown = false
is_running gone = false

abbrev pub is_waiting : Where → Bool
is_waiting unbegun = false
is_waiting running = false
is_waiting waiting = true
is_waiting shown = false
is_waiting gone = false

abbrev pub is_shown : Where → Bool
is_shown unbegun = false
is_shown running = false
is_shown waiting = false
is_shown shown = true
is_shown gone = false

abbrev pub is_begun : Where → Bool
is_begun unbegun = false
is_begun running = true
is_begun waiting = true
is_begun shown = true
is_begun gone = true

-- running, waiting or shown
abbrev pub is_present : Where → Bool
is_present w = is_running w || (is_waiting w || is_shown w)

-- ---- the four places of the ledger

-- a reset or power event
abbrev pub is_loss : {kind : Kind} → Happening kind → Bool
is_loss (began) = false
is_loss (finished t p r) = false
is_loss lost = true
is_loss (opened a) = false
is_loss (gave v) = false
is_loss closed = false
is_loss (changed x) = false

abbrev pub is_close : {kind : Kind} → Happening kind → Bool
is_close (began) = false
is_close (finished t p r) = false
is_close lost = false
is_close (opened a) = false
is_close (gave v) = false
is_close closed = true
is_close (changed x) = false

-- a closed burst, if it was whole (g), shows one at w
abbrev pub delivers : {kind : Kind} → Happening kind → Bool → Where → Bool
delivers x g w = is_close x && (g && is_shown w)

-- a reset or power event finds one at w running, waiting or shown
abbrev pub finds : {kind : Kind} → Happening kind → Where → Bool
finds x w = is_loss x && is_present w

-- A later finished one takes the place of one at w: at a finish the waiting one's, and the shown one's unless a burst is open (o); at a close the shown
-- one's if one waits (u).
abbrev pub replaces : {kind : Kind} → Happening kind → Bool → Bool → Where → Bool
replaces (began) o u w = false
replaces (finished t p r) o u w = is_waiting w || (is_shown w && not o)
replaces lost o u w = false
replaces (opened a) o u w = false
replaces (gave v) o u w = false
replaces closed o u w = is_shown w && u
replaces (changed x) o u w = false

-- at some moment the test holds of what happened then, of the history before it, and of k
abbrev pub once : {kind : Kind} → (Happening kind → List (Happening kind) → ℕ → Bool) → List (Happening kind) → ℕ → Bool
once test [] k = false
once test (x ∷ h) k = once test h k || test x h k

-- Delivered: some whole closed burst showed it.
abbrev pub delivered : {kind : Kind} → List (Happening kind) → ℕ → Bool
delivered = once (λ x h k. delivers x (whole_in h) (where_is h k))

-- Abandoned: not delivered before a reset or power event found it running, waiting or shown.
abbrev pub abandoned : {kind : Kind} → List (Happening kind) → ℕ → Bool
abandoned = once (λ x h k. finds x (where_is h k) && not (delivered h k))

-- Overwritten: a later finished one replaced it while waiting or shown, undelivered.
abbrev pub overwritten : {kind : Kind} → List (Happening kind) → ℕ → Bool
overwritten = once (λ x h k. replaces x (open_in h) (waits_in h) (where_is h k) && not (delivered (x ∷ h) k))

-- a reset or power event came after its beginning
abbrev pub lost_since : {kind : Kind} → List (Happening kind) → ℕ → Bool
lost_since = once (λ x h k. is_loss x && is_begun (where_is h k))

-- Standing: begun and not finished since, or finished and at the history's end waiting or shown, with no whole close of it and no reset or power event
-- after its beginning.
abbrev pub standing : {kind : Kind} → List (Happening kind) → ℕ → Bool
standing h k = is_present (where_is h k) && (not (delivered h k) && not (lost_since h k))

-- ---- counting

abbrev pub bit : Bool → ℕ
bit true = 1
bit false = 0

-- of how many of the conversions 1 to n the test holds
abbrev pub count : ℕ → (ℕ → Bool) → ℕ
count zero f = 0
count (suc n) f = bit (f (suc n)) + count n f
