-- Why each answer is exact: it is the verdict of its table of needs, which is a value exactly where every need is met.
use Prim.Native.Nat.{ℕ, zero, suc, ◌≤◌}
use mathlib.Core.Path.{◌≡◌, refl, sym, ap, ◌∙◌}
use mathlib.Core.Bool.{true}
use mathlib.Core.List.{List, [], ◌∷◌}
use native.Mathlib.Omega.{arith}
use lib.IntN.{ℤ, pos, negsuc, nat_abs}
use lib.ListN.{get_or}
use Rattle.std.specs.Prelude.{Ok, Err}
use Rattle.laws.specs.Tests.{both}
use Rattle.steps.specs.declared.Signed.{Signed}
use Rattle.steps.specs.declared.Signed.TheVariants.{Bits32, Bits64}
use Rattle.steps.specs.Step.{Num}
use Rattle.steps.specs.Needs.{Need, hold, met, all_met, verdict, ◌>>ℤ◌}
use Rattle.steps.specs.Work.{plain}
use Rattle.steps.proofs.Exactness.{met-value, value-met}
use Rattle.calibration.specs.declared.PressureWords.{PressureWords}
use Rattle.calibration.specs.declared.HumidityWords.{HumidityWords}
use Rattle.formula.specs.declared.Temperature.{Temperature}
use Rattle.formula.specs.Answers.{answered}
use Rattle.formula_temperature.specs.Temperature as t
use Rattle.formula_temperature.specs.Needs.{temperature_needs}
use Rattle.formula_temperature.proofs.Needs as temperature-table
use Rattle.formula_pressure.specs.Pressure as p
use Rattle.formula_pressure.specs.Needs.{pressure_needs}
use Rattle.formula_pressure.proofs.Needs as pressure-table
use Rattle.formula_humidity.specs.Humidity as h
use Rattle.formula_humidity.specs.Needs.{humidity_needs}
use Rattle.formula_humidity.proofs.Needs as humidity-table
use Rattle.formula_exact.specs.Exact as exact

-- ---- temperature

module _ (ds : List Need) (v f : ℤ) where
  temperature-known : (value fine : ℤ) → t.with_fine f (verdict Bits32 ds v) ≡ Ok (record { value = value; fine = fine }) → (value ≡ v) × (fine ≡ f) × (all_met Bits32 ds ≡ true)
  temperature-known value fine e = go (verdict Bits32 ds v) refl e
    where
      go : (a : Num) → verdict Bits32 ds v ≡ a → t.with_fine f a ≡ Ok (record { value = value; fine = fine }) → (value ≡ v) × (fine ≡ f) × (all_met Bits32 ds ≡ true)
      go (Ok x) is k =
          let q = value-met Bits32 ds v x is in
          let same : ◌≡◌ {A = Temperature} (record { value = value; fine = fine }) (record { value = x; fine = f }) = cc in
          (ap (λ (t : Temperature). t.value) same ∙ q.1, ap (λ (t : Temperature). t.fine) same, q.0)
      go (Err m) is k = (cc, cc, cc)

pub temperature-given : exact.TemperatureGiven
temperature-given words count value fine = (
  λ e.
      let said = sym (temperature-table.first-decides words count) ∙ e in
      let q = temperature-known (temperature_needs words count) (t.plain_temperature words count) (t.plain_fine words count) value fine said in
      record { value-is = q.0; fine-is = q.1; needs-met = q.2 },
  λ x. temperature-table.first-decides words count ∙ rw (met-value Bits32 (temperature_needs words count) (t.plain_temperature words count) x.needs-met, x.value-is, x.fine-is),
)

-- ---- pressure and humidity

-- an answer that is known is the value without its sign
channel-known : (w : Signed) (ds : List Need) (v : ℤ) (value : ℕ) → answered (verdict w ds v) ≡ Ok value → (value ≡ nat_abs v) × (all_met w ds ≡ true)
channel-known w ds v value e = go (verdict w ds v) refl e
  where
    go : (a : Num) → verdict w ds v ≡ a → answered a ≡ Ok value → (value ≡ nat_abs v) × (all_met w ds ≡ true)
    go (Ok x) is k =
        let q = value-met w ds v x is in
        let same : nat_abs x ≡ value = cc in
        (sym same ∙ ap nat_abs q.1, q.0)
    go (Err m) is k = (cc, cc)

known-channel : (w : Signed) (ds : List Need) (v : ℤ) (value : ℕ) → all_met w ds ≡ true → pos value ≡ v → answered (verdict w ds v) ≡ Ok value
known-channel w ds v value m e = rw (met-value w ds v m, ← e)

-- where all are met, so is each
pub met_at : (w : Signed) (ds : List Need) (k : ℕ) → all_met w ds ≡ true → met w (get_or ds k (hold true 0)) ≡ true
unfolding all_met
met_at w [] k e = refl
met_at w (d ∷ ds) zero e = (both (met w d) (all_met w ds) e).0
met_at w (d ∷ ds) (suc k) e = met_at w ds k (both (met w d) (all_met w ds) e).1

-- ---- pressure

in-range : (z : ℤ) → p.is_pressure z ≡ true → pos (nat_abs z) ≡ z
in-range (pos n) e = refl
in-range (negsuc n) e = cc

module _ (words : PressureWords) (fine : ℤ) (count : ℕ) where
  -- the last of the table
  pub ranged : all_met Bits64 (pressure_needs words fine count) ≡ true → p.is_pressure (p.plain_pressure words fine count) ≡ true
  unfolding pressure_needs p.plain_divisor p.plain_pressure
  ranged e = met_at Bits64 (pressure_needs words fine count) 36 e

pub pressure-given : exact.PressureGiven
pressure-given words fine count value = (
  λ e.
      let q = channel-known Bits64 (pressure_needs words fine count) (p.plain_pressure words fine count) value (sym (pressure-table.first-decides words fine count) ∙ e) in
      record { value-is = ap pos q.0 ∙ in-range (p.plain_pressure words fine count) (ranged words fine count q.1); needs-met = q.1 },
  λ x. pressure-table.first-decides words fine count ∙ known-channel Bits64 (pressure_needs words fine count) (p.plain_pressure words fine count) value x.needs-met x.value-is,
)

-- ---- humidity

-- what the clamp leaves, shifted by 12, lies within 0 and 102400
clamped-is : (v : ℤ) → pos (nat_abs (h.clamped v >>ℤ 12)) ≡ h.clamped v >>ℤ 12
clamped-is (pos n) = refl
clamped-is (negsuc n) = refl

clamped-le : (v : ℤ) → nat_abs (h.clamped v >>ℤ 12) ≤ 102400
clamped-le (pos n) = omega arith
clamped-le (negsuc n) = omega arith

module _ (words : HumidityWords) (fine : ℤ) (count : ℕ) where
  plain-clamped : h.plain_humidity words fine count ≡ h.clamped (plain (h.humidity_lines words fine count)) >>ℤ 12
  unfolding plain h.difference_line h.level_factor h.bend_factor h.gain_factor h.product_line h.correction_line h.humidity_lines h.plain_humidity
  plain-clamped = refl

  plain-is : pos (nat_abs (h.plain_humidity words fine count)) ≡ h.plain_humidity words fine count
  plain-is = rw plain-clamped (clamped-is (plain (h.humidity_lines words fine count)))

  plain-le : nat_abs (h.plain_humidity words fine count) ≤ 102400
  plain-le = rw plain-clamped (clamped-le (plain (h.humidity_lines words fine count)))

  humidity-known : (value : ℕ) → h.humidity_of words fine count ≡ Ok value → (value ≡ nat_abs (h.plain_humidity words fine count)) × (all_met Bits32 (humidity_needs words fine count) ≡ true)
  humidity-known value e = channel-known Bits32 (humidity_needs words fine count) (h.plain_humidity words fine count) value (sym (humidity-table.first-decides words fine count) ∙ e)

pub humidity-given : exact.HumidityGiven
humidity-given words fine count value = (
  λ e. let q = humidity-known words fine count value e in record { value-is = ap pos q.0 ∙ plain-is words fine count; needs-met = q.1 },
  λ x. humidity-table.first-decides words fine count ∙ known-channel Bits32 (humidity_needs words fine count) (h.plain_humidity words fine count) value x.needs-met x.value-is,
)

pub humidity-within : exact.HumidityWithin
humidity-within words fine count value e = rw (humidity-known words fine count value e).0 (plain-le words fine count)
