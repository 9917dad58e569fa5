-- What compensation takes out of a conversion's bytes: its counts, but for what a skipped channel stores, at which no channel looks.
use Prim.Native.Nat.{ℕ, ◌<◌}
use mathlib.Core.Path.{◌≡◌, refl, sym, ap, ◌∙◌}
use mathlib.Core.Bool.{Bool, true, false, cond}
use native.Mathlib.Omega.{arith}
use lib.Dec.{eqb}
use lib.ListN.{take}
use borrow.Author.Tests.{le-leb}
use Rattle.laws.specs.Choices.{pick}
use Rattle.std.specs.Prelude.{Err}
use Rattle.paper.specs.Answers.{missing}
use Rattle.paper.specs.Numbers as no
use Rattle.paper.specs.Registers as reg
use Rattle.kinds.specs.declared.Kind.{Kind}
use Rattle.kinds.specs.declared.Kind.TheVariants.{Bme280, Bmp280}
use Rattle.kinds.specs.Chips.{facts}
use Rattle.calibration.specs.declared.Words.{Words}
use Rattle.formula.specs.Answers.{TemperatureAnswer, ChannelAnswer}
use Rattle.formula_temperature.specs.Temperature.{temperature_of}
use Rattle.data.specs.declared.Counts.{Counts}
use Rattle.data.specs.Counts.{counts_of, laid}
use Rattle.data.specs.RoundTrip.{InRange}
use Rattle.data.proofs.RoundTrip.{laid-then-counted}
use Rattle.compensation.specs.declared.Reading.{Reading}
use Rattle.compensation.specs.Compensation.{temperature_channel, pressure_at, pressure_channel, humidity_at, humidity_channel}
use Rattle.compensation_kinds.specs.Kinds.{reading_by}
use Rattle.machine.specs.declared.Codes.{Codes}
use Rattle.machine.specs.Fields.{with_codes}
use Rattle.machine.specs.State.{fresh_device}
use Rattle.machine.specs.Data.{kept, stored}
use Rattle.ledger.specs.Bytes.{data_bytes}
use Rattle.ledger.proofs.Laid.{lays}
use Rattle.ledger_reading.proofs.Sound.{CodesFit}
use Rattle.ledger_reading.proofs.Shown.{bytes_of}

-- what is stored of the counts under the codes: of a part without humidity 0 in its place
abbrev stored_counts : Kind → Codes → Counts → Counts
stored_counts kind c k = record {
  temperature = kept c.temperature k.temperature reg.skipped20;
  pressure = kept c.pressure k.pressure reg.skipped20;
  humidity = cond (facts kind).humidity (kept c.humidity k.humidity reg.skipped16) 0;
}

kept-fits : (code n skipped bound : ℕ) → n < bound → skipped < bound → kept code n skipped < bound
kept-fits code n skipped bound l s = at (eqb code 0)
  where
    at : (b : Bool) → cond b skipped n < bound
    at true = s
    at false = l

stored-fits : (kind : Kind) (c : Codes) (k : Counts) → InRange k → InRange (stored_counts kind c k)
stored-fits kind c k r = record {
  temperature = kept-fits c.temperature k.temperature reg.skipped20 reg.count20 r.temperature (omega arith);
  pressure = kept-fits c.pressure k.pressure reg.skipped20 reg.count20 r.pressure (omega arith);
  humidity = pick (λ n. n < reg.count16) (facts kind).humidity
      (λ _. kept-fits c.humidity k.humidity reg.skipped16 reg.count16 r.humidity (omega arith)) (λ _. omega arith);
}

bytes-laid : (kind : Kind) (c : Codes) (k : Counts) → let s = stored_counts kind c k in bytes_of kind c k ≡ laid s.temperature s.pressure s.humidity
unfolding stored
bytes-laid kind c k = sym (lays (with_codes c (fresh_device kind)) k.temperature k.pressure k.humidity)

-- the part's own bytes have them all
own-counts : (kind : Kind) (c : Codes) (k : Counts) → counts_of (take (facts kind).bytes (bytes_of kind c k)) ≡ counts_of (bytes_of kind c k)
unfolding data_bytes
own-counts Bme280 c k = refl
own-counts Bmp280 c k = refl

counts-out : (kind : Kind) (c : Codes) (k : Counts) → InRange k → counts_of (take (facts kind).bytes (bytes_of kind c k)) ≡ stored_counts kind c k
counts-out kind c k r = own-counts kind c k ∙ ap counts_of (bytes-laid kind c k) ∙ laid-then-counted (stored_counts kind c k) (stored-fits kind c k r)

-- a channel looks at its count only where it is not skipped
enabled : {A : Type 0} (code n skipped : ℕ) (x : A) (f : ℕ → A) → cond (eqb code 0) x (f (kept code n skipped)) ≡ cond (eqb code 0) x (f n)
enabled {A} code n skipped x f = at (eqb code 0)
  where
    at : (b : Bool) → cond b x (f (cond b skipped n)) ≡ cond b x (f n)
    at true = refl
    at false = refl

module _ (words : Words) where
  -- the three channels of counts, once temperature is answered
  abbrev channels : Kind → Codes → TemperatureAnswer → ℕ → ℕ → Reading
  channels kind c t p h = record {
    temperature = t;
    pressure = pressure_channel c.pressure t words.pressure p;
    humidity = cond (facts kind).humidity (humidity_channel c.humidity t words.humidity h) (Err (missing no.skipped));
  }

  -- humidity, where there is any
  same-humidity : (kind : Kind) (c : Codes) (k : Counts) (warm : TemperatureAnswer)
      → (channels kind c warm k.pressure (stored_counts kind c k).humidity).humidity ≡ (channels kind c warm k.pressure k.humidity).humidity
  same-humidity Bme280 c k warm = enabled c.humidity k.humidity reg.skipped16 _ (humidity_at warm words.humidity)
  same-humidity Bmp280 c k warm = refl

  pub same-reading : (kind : Kind) (c : Codes) (k : Counts)
      → reading_by kind words (stored_counts kind c k) c.temperature c.pressure c.humidity ≡ reading_by kind words k c.temperature c.pressure c.humidity
  same-reading kind c k =
      let s = stored_counts kind c k in
      let warm = temperature_channel c.temperature words.temperature k.temperature in
      let press = pressure_channel c.pressure warm words.pressure k.pressure in
      ap (λ (t : TemperatureAnswer). channels kind c t s.pressure s.humidity) (enabled c.temperature k.temperature reg.skipped20 _ (temperature_of words.temperature))
      ∙ (ap (λ (x : ChannelAnswer). record { temperature = warm; pressure = x; humidity = (channels kind c warm s.pressure s.humidity).humidity })
      (enabled c.pressure k.pressure reg.skipped20 _ (pressure_at warm words.pressure))
      ∙ ap (λ (x : ChannelAnswer). record { temperature = warm; pressure = press; humidity = x }) (same-humidity kind c k warm))

pub codes-pass : (c : Codes) → CodesFit c → reg.are_codes c.temperature c.pressure c.humidity ≡ true
codes-pass c f = rw (le-leb c.temperature 7 f.temperature, le-leb c.pressure 7 f.pressure, le-leb c.humidity 7 f.humidity)

-- the part's bytes are read as the counts that were handed over
pub reads : (kind : Kind) (words : Words) (c : Codes) (k : Counts) → InRange k
    → reading_by kind words (counts_of (take (facts kind).bytes (bytes_of kind c k))) c.temperature c.pressure c.humidity
    ≡ reading_by kind words k c.temperature c.pressure c.humidity
reads kind words c k r =
    ap (λ (x : Counts). reading_by kind words x c.temperature c.pressure c.humidity) (counts-out kind c k r) ∙ same-reading words kind c k
