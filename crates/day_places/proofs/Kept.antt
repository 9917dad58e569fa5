-- A row says its answer again, since what an answer holds fits its type and no missing one has the number 0.
use Prim.Native.Nat.{ℕ, ◌≤◌, zero-le}
use mathlib.Core.Path.{◌≡◌, refl}
use mathlib.Core.Bool.{Bool, true, false, cond}
use mathlib.Core.List.{List}
use native.Mathlib.Omega.{arith}
use lib.Dec.{eqb}
use lib.IntN.{ℤ, pos, negsuc}
use lib.ListN.{length}
use borrow.Author.Tests.{ltb-true, le-leb, lt-leb}
use Rattle.paper.specs.Numbers as no
use Rattle.paper.specs.Registers as reg
use Rattle.steps.specs.declared.Signed.TheVariants.{Bits32}
use Rattle.steps.specs.Step.{fits}
use Rattle.calibration.specs.declared.Words.{Words}
use Rattle.calibration.specs.declared.PressureWords.{PressureWords}
use Rattle.calibration.specs.declared.HumidityWords.{HumidityWords}
use Rattle.calibration.specs.Calibration.{words_of, calibrated}
use Rattle.data.specs.Counts.{counts_of}
use Rattle.std.specs.Prelude.{Ok, Err}
use Rattle.paper.specs.Answers.{refusal, missing}
use Rattle.paper.specs.declared.Missing.{Missing}
use Rattle.formula.specs.Answers.{TemperatureAnswer, ChannelAnswer, temperature_number, channel_number}
use Rattle.formula_temperature.specs.Temperature as t
use Rattle.formula_pressure.specs.Pressure.{pressure_of}
use Rattle.formula_humidity.specs.Humidity.{humidity_of}
use Rattle.formula_exact.proofs.Exact.{humidity-within}
use Rattle.formula_exact.proofs.Within.{temperature-within, pressure-within, numbers}
use Rattle.compensation.specs.declared.Reading.{Reading}
use Rattle.compensation.specs.Compensation.{Answer, temperature_channel, pressure_at, pressure_channel, humidity_at, humidity_channel, reading, compensated_words, compensated_with, compensated}
use Rattle.day_row.specs.Row.{temperature_value, fine_value, channel_value, numbers_of, is_signed, number_of, temperature_of, channel_of, eight_of, answer_of}
use Rattle.day_places.specs.Kept.{LosesNothing, HoldsZero, RefusedInEach}

-- ---- what a row can hold

abbrev Number : ℕ → Type 0
Number n = (1 ≤ n) × (n ≤ 255)

abbrev HoldsTemperature : TemperatureAnswer → Type 0
HoldsTemperature (Ok t) = (is_signed t.value ≡ true) × (is_signed t.fine ≡ true)
HoldsTemperature (Err m) = Number m.number

abbrev HoldsChannel : ChannelAnswer → Type 0
HoldsChannel (Ok value) = value ≤ 4294967295
HoldsChannel (Err m) = Number m.number

record HoldsReading (r : Reading) : Type 0 where
  temperature : HoldsTemperature r.temperature
  pressure : HoldsChannel r.pressure
  humidity : HoldsChannel r.humidity

abbrev Holds : Answer → Type 0
Holds (Ok r) = HoldsReading r
Holds (Err e) = Number e.number

number-back : (n : ℕ) → Number n → number_of (pos n) ≡ n
unfolding number_of
number-back n k = rw (le-leb 1 n k.0, le-leb n 255 k.1)

temperature-back : (a : TemperatureAnswer) → HoldsTemperature a → temperature_of (pos (temperature_number a)) (temperature_value a) (fine_value a) ≡ a
unfolding temperature_of
temperature-back (Ok t) k = rw (k.0, k.1)
temperature-back (Err m) k = rw (le-leb 0 m.number zero-le, lt-leb m.number 0 k.0, number-back m.number k)

channel-back : (a : ChannelAnswer) → HoldsChannel a → channel_of (pos (channel_number a)) (channel_value a) ≡ a
unfolding channel_of
channel-back (Ok value) k = rw (le-leb 0 value zero-le, le-leb value 4294967295 k)
channel-back (Err m) k = rw (le-leb 0 m.number zero-le, lt-leb m.number 0 k.0, number-back m.number k)

back : (a : Answer) → Holds a → answer_of (numbers_of a) ≡ a
unfolding numbers_of answer_of eight_of
back (Ok r) k = rw (temperature-back r.temperature k.temperature, channel-back r.pressure k.pressure, channel-back r.humidity k.humidity)
back (Err e) k = rw (le-leb 0 e.number zero-le, lt-leb e.number 0 k.0, number-back e.number k)

-- ---- every answer of the single call can be held

signed : (z : ℤ) → fits Bits32 z ≡ true → is_signed z ≡ true
signed (pos n) e = let h = ltb-true n 2147483648 e in rw (le-leb n 2147483647 (omega (arith, h)))
signed (negsuc n) e = let h = ltb-true n 2147483648 e in rw (le-leb n 2147483647 (omega (arith, h)))

number : (high : ℕ) (m : Missing) → high ≤ 14 → (12 ≤ m.number) × (m.number ≤ high) → Number m.number
number high m h k = let a = k.0 in let b = k.1 in (omega (arith, a), omega (arith, b, h))

temperature-held : (words : Words) (count : ℕ) → HoldsTemperature (t.temperature_of words.temperature count)
temperature-held words count = go (t.temperature_of words.temperature count) refl
  where
    go : (a : TemperatureAnswer) → t.temperature_of words.temperature count ≡ a → HoldsTemperature a
    go (Ok x) e = let w = temperature-within words.temperature count x.value x.fine e in (signed x.value w.0, signed x.fine w.1)
    go (Err m) e = number 12 m (omega arith) (numbers.temperature words.temperature count m e)

pressure-held : (words : PressureWords) (fine : ℤ) (count : ℕ) → HoldsChannel (pressure_of words fine count)
pressure-held words fine count = go (pressure_of words fine count) refl
  where
    go : (a : ChannelAnswer) → pressure_of words fine count ≡ a → HoldsChannel a
    go (Ok value) e = pressure-within words fine count value e
    go (Err m) e = number 14 m (omega arith) (numbers.pressure words fine count m e)

humidity-held : (words : HumidityWords) (fine : ℤ) (count : ℕ) → HoldsChannel (humidity_of words fine count)
humidity-held words fine count = go (humidity_of words fine count) refl
  where
    go : (a : ChannelAnswer) → humidity_of words fine count ≡ a → HoldsChannel a
    go (Ok value) e = let w = humidity-within words fine count value e in omega (arith, w)
    go (Err m) e = number 12 m (omega arith) (numbers.humidity words fine count m e)

temperature-channel-held : (code : ℕ) (words : Words) (count : ℕ) → HoldsTemperature (temperature_channel code words.temperature count)
temperature-channel-held code words count = go (eqb code 0)
  where
    go : (b : Bool) → HoldsTemperature (cond b (Err (missing no.skipped)) (t.temperature_of words.temperature count))
    go true = (omega arith, omega arith)
    go false = temperature-held words count

pressure-channel-held : (code : ℕ) (a : TemperatureAnswer) (words : PressureWords) (count : ℕ) → HoldsChannel (pressure_channel code a words count)
pressure-channel-held code a words count = go (eqb code 0) a
  where
    go : (b : Bool) (a : TemperatureAnswer) → HoldsChannel (cond b (Err (missing no.skipped)) (pressure_at a words count))
    go true a = (omega arith, omega arith)
    go false (Ok t) = pressure-held words t.fine count
    go false (Err m) = (omega arith, omega arith)

humidity-channel-held : (code : ℕ) (a : TemperatureAnswer) (words : HumidityWords) (count : ℕ) → HoldsChannel (humidity_channel code a words count)
humidity-channel-held code a words count = go (eqb code 0) a
  where
    go : (b : Bool) (a : TemperatureAnswer) → HoldsChannel (cond b (Err (missing no.skipped)) (humidity_at a words count))
    go true a = (omega arith, omega arith)
    go false (Ok t) = humidity-held words t.fine count
    go false (Err m) = (omega arith, omega arith)

words-held : (words : Words) (bytes : List ℕ) (t p h : ℕ) → Holds (compensated_words words bytes t p h)
unfolding compensated_words
words-held words bytes t p h = go (reg.are_codes t p h)
  where
    go : (b : Bool) → Holds (cond b (Ok (reading words (counts_of bytes) t p h)) (Err (refusal no.out_of_range)))
    go true =
        record {
          temperature = temperature-channel-held t words (counts_of bytes).temperature;
          pressure = pressure-channel-held p (temperature_channel t words.temperature (counts_of bytes).temperature) words.pressure (counts_of bytes).pressure;
          humidity = humidity-channel-held h (temperature_channel t words.temperature (counts_of bytes).temperature) words.humidity (counts_of bytes).humidity;
        }
    go false = (omega arith, omega arith)

with-held : (words : Words) (bytes : List ℕ) (t p h : ℕ) → Holds (compensated_with (Ok words) bytes t p h)
with-held words bytes t p h = go (eqb (length bytes) reg.data_length)
  where
    go : (b : Bool) → Holds (cond b (compensated_words words bytes t p h) (Err (refusal no.wrong_length)))
    go true = words-held words bytes t p h
    go false = (omega arith, omega arith)

call-held : (one two bytes : List ℕ) (t p h : ℕ) → Holds (compensated one two bytes t p h)
unfolding compensated calibrated
call-held one two bytes t p h = go (eqb (length one) reg.block_one) (eqb (length two) reg.block_two)
  where
    go : (b c : Bool) →
        Holds
        (compensated_with (cond b (cond c (Ok (words_of one two)) (Err (refusal no.wrong_length))) (Err (refusal no.wrong_length))) bytes t p h)
    go true true = with-held (words_of one two) bytes t p h
    go true false = (omega arith, omega arith)
    go false c = (omega arith, omega arith)

pub loses-nothing : LosesNothing
loses-nothing one two bytes t p h = back (compensated one two bytes t p h) (call-held one two bytes t p h)

-- ---- where there is no value

value-zero : (a : ChannelAnswer) → (pos (channel_number a) ≡ pos 0 → ⊥) → channel_value a ≡ pos 0
value-zero (Ok value) h = absurd (h refl)
value-zero (Err m) h = refl

temperature-zero : (a : TemperatureAnswer) → (pos (temperature_number a) ≡ pos 0 → ⊥) → (temperature_value a ≡ pos 0) × (fine_value a ≡ pos 0)
temperature-zero (Ok t) h = absurd (h refl)
temperature-zero (Err m) h = (refl, refl)

pub holds-zero : HoldsZero
unfolding numbers_of
holds-zero (Ok r) =
    record {
      temperature = λ h. (temperature-zero r.temperature h).0;
      fine = λ h. (temperature-zero r.temperature h).1;
      pressure = value-zero r.pressure;
      humidity = value-zero r.humidity;
    }
holds-zero (Err e) = record { temperature = λ h. refl; fine = λ h. refl; pressure = λ h. refl; humidity = λ h. refl }

pub refused-in-each : RefusedInEach
unfolding numbers_of
refused-in-each n = record { temperature = refl; pressure = refl; humidity = refl }
