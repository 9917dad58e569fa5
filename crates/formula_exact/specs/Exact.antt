-- Each answer against the maker's formula with no check: a value is given exactly where every need of the formula's table is met, that is where every
-- step fits its width, and for the pressure the divisor is not zero and the range holds; and it is then the plain formula's. A humidity given lies
-- within 0 and 102400. (That else the first need that is not met gives its number is `FirstDecides` beside each table.)
use Rattle.std.specs.Prelude.{ℕ, ◌≤◌, ◌≡◌, true, ℤ, pos, Ok}
use Rattle.steps.specs.declared.Signed.TheVariants.{Bits32, Bits64}
use Rattle.steps.specs.Needs.{all_met}
use Rattle.calibration.specs.declared.TemperatureWords.{TemperatureWords}
use Rattle.calibration.specs.declared.PressureWords.{PressureWords}
use Rattle.calibration.specs.declared.HumidityWords.{HumidityWords}
use Rattle.formula_temperature.specs.Temperature.{temperature_of, plain_fine, plain_temperature}
use Rattle.formula_temperature.specs.Needs.{temperature_needs}
use Rattle.formula_pressure.specs.Pressure.{pressure_of, plain_pressure}
use Rattle.formula_pressure.specs.Needs.{pressure_needs}
use Rattle.formula_humidity.specs.Humidity.{humidity_of, plain_humidity}
use Rattle.formula_humidity.specs.Needs.{humidity_needs}

infix 2 ◌⇔◌
abbrev pub ◌⇔◌ : Type 0 → Type 0 → Type 0
A ⇔ B = (A → B) × (B → A)

-- ---- temperature

pub record TemperatureExact (words : TemperatureWords) (count : ℕ) (value fine : ℤ) : Type 0 where
  pub value-is : value ≡ plain_temperature words count
  pub fine-is : fine ≡ plain_fine words count
  pub needs-met : all_met Bits32 (temperature_needs words count) ≡ true

abbrev pub TemperatureGiven : Type 0
TemperatureGiven =
    (words : TemperatureWords) (count : ℕ) (value fine : ℤ) →
    temperature_of words count ≡ Ok (record { value = value; fine = fine }) ⇔ TemperatureExact words count value fine

-- ---- pressure

pub record PressureExact (words : PressureWords) (fine : ℤ) (count value : ℕ) : Type 0 where
  pub value-is : pos value ≡ plain_pressure words fine count
  pub needs-met : all_met Bits64 (pressure_needs words fine count) ≡ true

abbrev pub PressureGiven : Type 0
PressureGiven =
    (words : PressureWords) (fine : ℤ) (count value : ℕ) →
    pressure_of words fine count ≡ Ok value ⇔ PressureExact words fine count value

-- ---- humidity

pub record HumidityExact (words : HumidityWords) (fine : ℤ) (count value : ℕ) : Type 0 where
  pub value-is : pos value ≡ plain_humidity words fine count
  pub needs-met : all_met Bits32 (humidity_needs words fine count) ≡ true

abbrev pub HumidityGiven : Type 0
HumidityGiven =
    (words : HumidityWords) (fine : ℤ) (count value : ℕ) →
    humidity_of words fine count ≡ Ok value ⇔ HumidityExact words fine count value

abbrev pub HumidityWithin : Type 0
HumidityWithin =
    (words : HumidityWords) (fine : ℤ) (count value : ℕ) → humidity_of words fine count ≡ Ok value → value ≤ 102400
