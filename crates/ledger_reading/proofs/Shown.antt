-- What is known of the conversion that a burst shows: its codes, its counts and its bytes are those of its number in the whole history.
use Prim.Native.Nat.{ℕ, suc, ◌+◌, ◌≤◌}
use mathlib.Core.Path.{◌≡◌, refl, sym, ap, subst, ◌∙◌}
use mathlib.Core.Bool.{Bool, true, false, ◌&&◌}
use mathlib.Core.List.{List, [], ◌∷◌}
use native.Mathlib.Omega.{arith}
use borrow.Author.Tests.{eq-eqb, ne_eqb}
use Rattle.laws.specs.Choices.{pick}
use Rattle.data.specs.declared.Counts.{Counts}
use Rattle.data.specs.RoundTrip.{InRange}
use Rattle.kinds.specs.declared.Kind.{Kind}
use Rattle.machine.specs.declared.Codes.{Codes}
use Rattle.machine.specs.declared.Phase.{Phase}
use Rattle.ledger.specs.Happening.{copied, wrote_f2, wrote_f5, held_f4, took_f4, Happening, began, finished, lost, opened, gave, closed, changed}
use Rattle.ledger.specs.Device.{is_converting, is_forced, is_standby, asks_normal, device_in}
use Rattle.ledger.specs.Bytes.{data_bytes}
use Rattle.ledger.specs.History.{Measurement, no_measurement, begun_in, codes_in, last_finished, shown_by, bit}
use Rattle.ledger_reading.specs.Reading.{began_with, finished_with}
use Rattle.ledger_reading.proofs.Sound.{Good, Sound, CodesFit, codes-fit}

-- ---- a conversion that has finished does not finish or begin again

-- it has begun, and does not run
abbrev Past : {kind : Kind} → List (Happening kind) → ℕ → Type 0
Past h n = n + bit (is_converting (device_in h).phase) ≤ begun_in h

bit-most : (b : Bool) → bit b ≤ 1
bit-most true = omega arith
bit-most false = omega arith

idle : {kind : Kind} (h : List (Happening kind)) (n k : ℕ) (p : Phase) → is_converting p ≡ false → n + k ≤ begun_in h → n + bit (is_converting p) ≤ begun_in h
idle h n k p e l = rw e (omega arith)

past-on : {kind : Kind} (x : Happening kind) (h : List (Happening kind)) (n : ℕ) → Past h n → Past (x ∷ h) n
past-on began h n p = omega (arith, bit-most (is_converting (device_in (began ∷ h)).phase))
past-on (finished t q u) h n p =
    idle h n _ (device_in (finished t q u ∷ h)).phase (pick (λ (w : Phase). is_converting w ≡ false) (is_forced (device_in h).phase) (λ _. refl) (λ _. refl)) p
past-on lost h n p = omega arith
past-on (opened a) h n p = p
past-on (gave v) h n p = p
past-on closed h n p = p
past-on (changed copied) h n p = p
past-on (changed (wrote_f2 v)) h n p = p
past-on (changed (wrote_f5 v)) h n p = p
past-on (changed (held_f4 v)) h n p = p
past-on (changed (took_f4 v)) h n p =
    idle h n _ (device_in (changed (took_f4 v) ∷ h)).phase
    (pick (λ (w : Phase). is_converting w ≡ false) (asks_normal v && is_standby (device_in h).phase) (λ _. refl) (λ _. refl)) p

began-on : {kind : Kind} (x : Happening kind) (h : List (Happening kind)) (n : ℕ) → Past h n → began_with (x ∷ h) n ≡ began_with h n
began-on began h n p = rw (ne_eqb (suc (begun_in h)) n (λ e. omega arith))
began-on (finished t q u) h n p = refl
began-on lost h n p = refl
began-on (opened a) h n p = refl
began-on (gave v) h n p = refl
began-on closed h n p = refl
began-on (changed x) h n p = refl

finished_on : {kind : Kind} (x : Happening kind) (h : List (Happening kind)) (n : ℕ) → Good x h → Past h n → finished_with (x ∷ h) n ≡ finished_with h n
finished_on began h n g p = refl
finished_on (finished t q u) h n g p = let l : n + 1 ≤ begun_in h = rw g.0 at p in rw (ne_eqb (begun_in h) n (λ e. omega arith))
finished_on lost h n g p = refl
finished_on (opened a) h n g p = refl
finished_on (gave v) h n g p = refl
finished_on closed h n g p = refl
finished_on (changed x) h n g p = refl

-- ---- a measurement and the history that it is of

abbrev pub bytes_of : Kind → Codes → Counts → List ℕ
bytes_of kind c k = data_bytes kind c k.temperature k.pressure k.humidity

pub record Of {kind : Kind} (h : List (Happening kind)) (c : Measurement) : Type 0 where
  pub past : Past h c.number
  pub codes-are : c.codes ≡ began_with h c.number
  pub codes-fit : CodesFit c.codes
  pub counts-fit : InRange (finished_with h c.number)
  pub bytes-are : c.bytes ≡ bytes_of kind c.codes (finished_with h c.number)

pub data Known {kind : Kind} (h : List (Happening kind)) : Measurement → Type 0 where
  none : Known h (no_measurement kind)
  one : (c : Measurement) → Of h c → Known h c

on : {kind : Kind} (x : Happening kind) (h : List (Happening kind)) (c : Measurement) → Good x h → Known h c → Known (x ∷ h) c
on x h c g none = none
on {kind} x h c g (one _ o) =
    let f : finished_with h c.number ≡ finished_with (x ∷ h) c.number = sym (finished_on x h c.number g o.past) in
    one c (record {
      past = past-on x h c.number o.past;
      codes-are = o.codes-are ∙ sym (began-on x h c.number o.past);
      codes-fit = o.codes-fit;
      counts-fit = subst InRange f o.counts-fit;
      bytes-are = o.bytes-are ∙ ap (bytes_of kind c.codes) f;
    })

-- the last that began is the one with that number
last-codes : {kind : Kind} (h : List (Happening kind)) → codes_in h ≡ began_with h (begun_in h)
last-codes [] = refl
last-codes (began ∷ h) = rw (eq-eqb (suc (begun_in h)) (suc (begun_in h)) refl)
last-codes (finished t p u ∷ h) = last-codes h
last-codes (lost ∷ h) = last-codes h
last-codes (opened a ∷ h) = last-codes h
last-codes (gave v ∷ h) = last-codes h
last-codes (closed ∷ h) = last-codes h
last-codes (changed x ∷ h) = last-codes h

finishes-now : {kind : Kind} (t p u : ℕ) (h : List (Happening kind)) → Sound (finished t p u ∷ h) → Of (finished t p u ∷ h) (last_finished (finished t p u ∷ h))
finishes-now {kind} t p u h s =
    let f : finished_with (finished t p u ∷ h) (begun_in h) ≡ record { temperature = t; pressure = p; humidity = u } = rw (eq-eqb (begun_in h) (begun_in h) refl) in
    record {
      past = idle h (begun_in h) 0 (device_in (finished t p u ∷ h)).phase
          (pick (λ (w : Phase). is_converting w ≡ false) (is_forced (device_in h).phase) (λ _. refl) (λ _. refl)) (omega arith);
      codes-are = last-codes h;
      codes-fit = codes-fit h s.1;
      counts-fit = subst InRange (sym f) s.0.1;
      bytes-are = ap (bytes_of kind (codes_in h)) (sym f);
    }

last : {kind : Kind} (h : List (Happening kind)) → Sound h → Known h (last_finished h)
last [] s = none
last (began ∷ h) s = on began h (last_finished h) s.0 (last h s.1)
last (finished t p u ∷ h) s = one _ (finishes-now t p u h s)
last (lost ∷ h) s = none
last (opened a ∷ h) s = on (opened a) h (last_finished h) s.0 (last h s.1)
last (gave v ∷ h) s = on (gave v) h (last_finished h) s.0 (last h s.1)
last (closed ∷ h) s = on closed h (last_finished h) s.0 (last h s.1)
last (changed x ∷ h) s = on (changed x) h (last_finished h) s.0 (last h s.1)

pub shown : {kind : Kind} (h : List (Happening kind)) → Sound h → Known h (shown_by h)
shown [] s = none
shown (began ∷ h) s = on began h (shown_by h) s.0 (shown h s.1)
shown (finished t p u ∷ h) s = on (finished t p u) h (shown_by h) s.0 (shown h s.1)
shown (lost ∷ h) s = on lost h (shown_by h) s.0 (shown h s.1)
shown (opened a ∷ h) s = on (opened a) h (last_finished h) s.0 (last h s.1)
shown (gave v ∷ h) s = on (gave v) h (shown_by h) s.0 (shown h s.1)
shown (closed ∷ h) s = on closed h (shown_by h) s.0 (shown h s.1)
shown (changed x ∷ h) s = on (changed x) h (shown_by h) s.0 (shown h s.1)
