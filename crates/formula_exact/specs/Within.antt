-- What an answer holds fits the type that it is handed over in, and which number a missing one has: statements (proofs/Within.antt).
use Rattle.std.specs.Prelude.{ℕ, ◌≤◌, ◌≡◌, true, ℤ, Ok, Err}
use Rattle.paper.specs.Numbers as no
use Rattle.paper.specs.declared.Missing.{Missing}
use Rattle.steps.specs.declared.Signed.TheVariants.{Bits32}
use Rattle.steps.specs.Step.{fits}
use Rattle.calibration.specs.declared.TemperatureWords.{TemperatureWords}
use Rattle.calibration.specs.declared.PressureWords.{PressureWords}
use Rattle.calibration.specs.declared.HumidityWords.{HumidityWords}
use Rattle.formula_temperature.specs.Temperature.{temperature_of}
use Rattle.formula_pressure.specs.Pressure.{pressure_of}
use Rattle.formula_humidity.specs.Humidity.{humidity_of}

-- both temperatures are numbers of 32 bits
abbrev pub TemperatureWithin : Type 0
TemperatureWithin =
    (words : TemperatureWords) (count : ℕ) (value fine : ℤ) →
    temperature_of words count ≡ Ok (record { value = value; fine = fine }) → (fits Bits32 value ≡ true) × (fits Bits32 fine ≡ true)

-- a pressure is one of 32 bits with no sign (a humidity is: `HumidityWithin`)
abbrev pub PressureWithin : Type 0
PressureWithin =
    (words : PressureWords) (fine : ℤ) (count value : ℕ) → pressure_of words fine count ≡ Ok value → value ≤ 4294967295

-- 12 for a temperature and a humidity: a step left its type. For a pressure 12 to 14: or the divisor was zero, or the pressure lay outside
abbrev pub Within : ℕ → ℕ → Missing → Type 0
Within low high m = (low ≤ m.number) × (m.number ≤ high)

pub record Numbers : Type 0 where
  pub temperature : (words : TemperatureWords) (count : ℕ) (m : Missing) → temperature_of words count ≡ Err m → Within no.left_its_type no.left_its_type m
  pub pressure : (words : PressureWords) (fine : ℤ) (count : ℕ) (m : Missing) → pressure_of words fine count ≡ Err m → Within no.left_its_type no.pressure_outside m
  pub humidity : (words : HumidityWords) (fine : ℤ) (count : ℕ) (m : Missing) → humidity_of words fine count ≡ Err m → Within no.left_its_type no.left_its_type m
