-- Where the plain roads are taken, what they give is the reading's answer.
use Prim.Native.Nat.{ℕ}
use mathlib.Core.Path.{◌≡◌, refl}
use mathlib.Core.Bool.{Bool, true, false, not, ◌&&◌}
use lib.Dec.{eqb}
use borrow.Author.Tests.{not-true}
use Rattle.std.specs.Prelude.{Option, Some, None, Ok, cond}
use Rattle.laws.specs.Tests.{both}
use Rattle.paper.specs.Registers as reg
use Rattle.calibration.specs.declared.Words.{Words}
use Rattle.data.specs.declared.Counts.{Counts}
use Rattle.data.specs.Counts.{counts_of}
use Rattle.formula.specs.declared.Temperature.{Temperature}
use Rattle.formula.proofs.Taken.{taken-channel, taken-temperature}
use Rattle.formula_temperature.specs.Temperature.{temperature_of}
use Rattle.formula_pressure.specs.Pressure.{pressure_of}
use Rattle.formula_humidity.specs.Humidity.{humidity_of}
use Rattle.compensation.specs.Compensation.{Answer, reading, compensated_words}
use Rattle.plain_reading.specs.declared.PlainReading.{PlainReading}
use Rattle.plain_reading.specs.Plain.{are_enabled, with_humidity, with_pressure, with_temperature, counts_plainly, read_plainly, answer_of}
use Rattle.plain_reading.specs.Taken.{IsTheAnswer}

-- codes that skip no channel
pub record Enabled (t p h : ℕ) : Type 0 where
  pub codes : reg.are_codes t p h ≡ true
  pub t-on : eqb t 0 ≡ false
  pub p-on : eqb p 0 ≡ false
  pub h-on : eqb h 0 ≡ false

pub enabled : (t p h : ℕ) → are_enabled t p h ≡ true → Enabled t p h
enabled t p h e =
    let c = both (reg.are_codes t p h) (not (eqb t 0) && (not (eqb p 0) && not (eqb h 0))) e in
    let d = both (not (eqb t 0)) (not (eqb p 0) && not (eqb h 0)) c.1 in
    let f = both (not (eqb p 0)) (not (eqb h 0)) d.1 in
    record { codes = c.0; t-on = not-true (eqb t 0) d.0; p-on = not-true (eqb p 0) f.0; h-on = not-true (eqb h 0) f.1 }

-- ---- from the last road back: each that is taken gives its channel's answer

module _ (words : Words) (counts : Counts) (r : PlainReading) where
  abbrev whole : Answer
  whole = Ok (reading words counts 1 1 1)

  abbrev HasTemperature : Temperature → Type 0
  HasTemperature t = temperature_of words.temperature counts.temperature ≡ Ok t

  abbrev HasPressure : Temperature → ℕ → Type 0
  HasPressure t p = pressure_of words.pressure t.fine counts.pressure ≡ Ok p

  abbrev HasHumidity : Temperature → ℕ → Type 0
  HasHumidity t h = humidity_of words.humidity t.fine counts.humidity ≡ Ok h

  with-humidity :
      (t : Temperature) (p : ℕ) (h : Option ℕ) → HasTemperature t → HasPressure t p → ((x : ℕ) → h ≡ Some x → HasHumidity t x) →
      with_humidity t p h ≡ Some r → answer_of r ≡ whole
  with-humidity t p (Some h) is-t is-p is-h e = let k = is-h h refl in cc
  with-humidity t p None is-t is-p is-h e = cc

  with-pressure :
      (t : Temperature) (p : Option ℕ) → HasTemperature t → ((x : ℕ) → p ≡ Some x → HasPressure t x) →
      with_pressure words counts t p ≡ Some r → answer_of r ≡ whole
  with-pressure t (Some p) is-t is-p e = with-humidity t p _ is-t (is-p p refl) (λ x. taken-channel _ _ _ x refl) e
  with-pressure t None is-t is-p e = cc

  with-temperature :
      (t : Option Temperature) → ((x : Temperature) → t ≡ Some x → HasTemperature x) →
      with_temperature words counts t ≡ Some r → answer_of r ≡ whole
  with-temperature (Some t) is-t e = with-pressure t _ (is-t t refl) (λ x. taken-channel _ _ _ x refl) e
  with-temperature None is-t e = cc

  pub of-counts : counts_plainly words counts ≡ Some r → answer_of r ≡ whole
  unfolding counts_plainly
  of-counts e = with-temperature _ (λ x. taken-temperature _ _ _ x refl) e

-- where a choice between some reading and none is some reading, its test held
chosen : (b : Bool) (o : Option PlainReading) (r : PlainReading) → cond b o None ≡ Some r → (b ≡ true) × (o ≡ Some r)
chosen true o r e = (refl, e)
chosen false o r e = cc

pub is-the-answer : IsTheAnswer
unfolding read_plainly compensated_words
is-the-answer words bytes t p h r e =
    let a = chosen (are_enabled t p h) (counts_plainly words (counts_of bytes)) r e in
    let on = enabled t p h a.0 in
    rw (on.codes, on.t-on, on.p-on, on.h-on) (of-counts words (counts_of bytes) r a.1)
