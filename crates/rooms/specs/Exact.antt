-- That the map's doubles are exact, said of their 64 bits over whole numbers alone: statements (proofs/Exact.antt).
use Rattle.std.specs.Prelude.{ℕ, zero, suc, ◌+◌, ◌*◌, ◌/◌, ◌%◌, ◌^◌, ◌<◌, Bool, true, false, ◌≡◌, ℤ, pos, negsuc, Float, Ok, Err}
use Rattle.std.specs.Int.Signed.{mag}
use Rattle.std.specs.Float.{binary64}
use Rattle.std.specs.Float.Ieee.{to_bits}
use Rattle.paper.specs.declared.Missing.{Missing}
use Rattle.paper.specs.Answers.{missing, refusal}
use Rattle.formula.specs.declared.Temperature.{Temperature}
use Rattle.compensation.specs.declared.Reading.{Reading}
use Rattle.compensation.specs.Compensation.{Answer}
use Rattle.rooms.specs.declared.Cell.{Cell}
use Rattle.rooms.specs.declared.Cell.TheVariants as the
use Rattle.rooms.specs.declared.Cells.{Cells}
use Rattle.rooms.specs.declared.MapPoint.{MapPoint}
use Rattle.rooms.specs.Points.{cells_of, point_of}

-- ---- what 64 bits mean (IEEE 754, binary64): bit 63 is the sign, bits 62 to 52 the exponent, bits 51 to 0 the fraction

abbrev pub sign_bit : ℕ → ℕ
sign_bit bits = bits / 2 ^ 63

abbrev pub exponent : ℕ → ℕ
exponent bits = bits / 2 ^ 52 % 2 ^ 11

abbrev pub fraction : ℕ → ℕ
fraction bits = bits % 2 ^ 52

-- the magnitude, in units of 2 ^ -1074: the fraction has a leading one, but for an exponent of 0
unfoldable pub magnitude : ℕ → ℕ → ℕ
magnitude zero digits = digits
magnitude (suc e) digits = (2 ^ 52 + digits) * 2 ^ e

-- the bits mean value / divisor, negative where the sign is 1; an exponent of 2047 means no number
pub record Means (bits sign value divisor : ℕ) : Type 0 where
  pub width : bits < 2 ^ 64
  pub sign-is : sign_bit bits ≡ sign
  pub finite : exponent bits < 2047
  pub value-is : magnitude (exponent bits) (fraction bits) * divisor ≡ value * 2 ^ 1074

-- no two patterns mean the same number with the same sign
abbrev pub OnePattern : Type 0
OnePattern =
    (bits bits' sign value divisor : ℕ) → 0 < divisor → Means bits sign value divisor → Means bits' sign value divisor → bits ≡ bits'

-- a temperature with its fine temperature
abbrev pub heat : ℤ → ℤ → Temperature
heat value fine = record { value = value; fine = fine }

-- ---- what the map shows of a channel

-- one that has a value: the cell is of its kind and has the point's double, which is the value exactly
pub record Shows (kind : Float → Cell) (cell : Cell) (double : Float) (known : Bool) (sign value divisor : ℕ) : Type 0 where
  pub holds : cell ≡ kind double
  pub flag : known ≡ true
  pub exact : Means (to_bits binary64 double) sign value divisor

-- one that has none: the cell passes on what stands in its place, and the double is positive zero, all of whose bits are 0
pub record Hides (m : Missing) (cell : Cell) (double : Float) (known : Bool) : Type 0 where
  pub passes : cell ≡ the.Missing m
  pub flag : known ≡ false
  pub plain-zero : to_bits binary64 double ≡ 0

-- whatever makes cells and points of answers
module _ (cells : Answer → Cells) (point : Answer → MapPoint) where
  abbrev pub ShowsTemperature : Answer → ℕ → ℕ → Type 0
  ShowsTemperature a sign value = Shows the.Temperature (cells a).temperature (point a).temperature (point a).temperature_known sign value 1

  abbrev pub ShowsPressure : Answer → ℕ → Type 0
  ShowsPressure a value = Shows the.Pressure (cells a).pressure (point a).pressure (point a).pressure_known 0 value 256

  abbrev pub ShowsHumidity : Answer → ℕ → Type 0
  ShowsHumidity a value = Shows the.Humidity (cells a).humidity (point a).humidity (point a).humidity_known 0 value 1024

  abbrev pub HidesTemperature : Answer → Missing → Type 0
  HidesTemperature a m = Hides m (cells a).temperature (point a).temperature (point a).temperature_known

  abbrev pub HidesPressure : Answer → Missing → Type 0
  HidesPressure a m = Hides m (cells a).pressure (point a).pressure (point a).pressure_known

  abbrev pub HidesHumidity : Answer → Missing → Type 0
  HidesHumidity a m = Hides m (cells a).humidity (point a).humidity (point a).humidity_known

  -- every temperature of 32 bits, with its sign, and every pressure and humidity of 32 bits; 10 to 14 pass through, and a reading refused whole
  -- is missing with its number in all three
  pub record Faithful : Type 0 where
    pub warm : (r : Reading) {n : ℕ} {fine : ℤ} → r.temperature ≡ Ok (heat (pos n) fine) → n < 2 ^ 31 → ShowsTemperature (Ok r) 0 n
    pub cold : (r : Reading) {n : ℕ} {fine : ℤ} → r.temperature ≡ Ok (heat (negsuc n) fine) → n < 2 ^ 31 → ShowsTemperature (Ok r) 1 (suc n)
    pub pressure : (r : Reading) {n : ℕ} → r.pressure ≡ Ok n → n < 2 ^ 32 → ShowsPressure (Ok r) n
    pub humidity : (r : Reading) {n : ℕ} → r.humidity ≡ Ok n → n < 2 ^ 32 → ShowsHumidity (Ok r) n
    pub no-temperature : (r : Reading) {m : Missing} → r.temperature ≡ Err m → HidesTemperature (Ok r) m
    pub no-pressure : (r : Reading) {m : Missing} → r.pressure ≡ Err m → HidesPressure (Ok r) m
    pub no-humidity : (r : Reading) {m : Missing} → r.humidity ≡ Err m → HidesHumidity (Ok r) m
    pub refused : (n : ℕ) → HidesTemperature (Err (refusal n)) (missing n) × HidesPressure (Err (refusal n)) (missing n) × HidesHumidity (Err (refusal n)) (missing n)

-- the map point of an answer
abbrev pub pointed : Answer → MapPoint
pointed answer = point_of (cells_of answer)

-- ---- so two different answers never give the same double

pub record Distinct (point : Answer → MapPoint) : Type 0 where
  pub temperature :
      (r s : Reading) {y z fine fine' : ℤ} → r.temperature ≡ Ok (heat y fine) → s.temperature ≡ Ok (heat z fine') →
      mag y < 2 ^ 31 → mag z < 2 ^ 31 → (point (Ok r)).temperature ≡ (point (Ok s)).temperature → y ≡ z
  pub pressure :
      (r s : Reading) {m n : ℕ} → r.pressure ≡ Ok m → s.pressure ≡ Ok n →
      m < 2 ^ 32 → n < 2 ^ 32 → (point (Ok r)).pressure ≡ (point (Ok s)).pressure → m ≡ n
  pub humidity :
      (r s : Reading) {m n : ℕ} → r.humidity ≡ Ok m → s.humidity ≡ Ok n →
      m < 2 ^ 32 → n < 2 ^ 32 → (point (Ok r)).humidity ≡ (point (Ok s)).humidity → m ≡ n

-- whatever the map shows faithfully
abbrev pub FaithfulDistinct : Type 0
FaithfulDistinct = (cells : Answer → Cells) (point : Answer → MapPoint) → Faithful cells point → Distinct point

-- ---- a true zero and a missing channel have the same double, and different flags

abbrev pub SameButFlags : Float → Bool → Float → Bool → Type 0
SameButFlags double known double' known' = (double ≡ double') × (known ≡ true) × (known' ≡ false)

pub record ZeroIsKnown (point : Answer → MapPoint) : Type 0 where
  pub temperature :
      (r s : Reading) {fine : ℤ} {m : Missing} → r.temperature ≡ Ok (heat (pos 0) fine) → s.temperature ≡ Err m →
      SameButFlags (point (Ok r)).temperature (point (Ok r)).temperature_known (point (Ok s)).temperature (point (Ok s)).temperature_known
  pub pressure :
      (r s : Reading) {m : Missing} → r.pressure ≡ Ok 0 → s.pressure ≡ Err m →
      SameButFlags (point (Ok r)).pressure (point (Ok r)).pressure_known (point (Ok s)).pressure (point (Ok s)).pressure_known
  pub humidity :
      (r s : Reading) {m : Missing} → r.humidity ≡ Ok 0 → s.humidity ≡ Err m →
      SameButFlags (point (Ok r)).humidity (point (Ok r)).humidity_known (point (Ok s)).humidity (point (Ok s)).humidity_known
