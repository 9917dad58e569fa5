-- The last needs of each table bound what an answer holds, and each need has its number.
use Prim.Native.Nat.{ℕ}
use mathlib.Core.Path.{◌≡◌, refl, sym, ap, subst, ◌∙◌}
use mathlib.Core.Bool.{Bool, true, false, cond, ◌&&◌}
use mathlib.Core.List.{List, [], ◌∷◌}
use native.Mathlib.Omega.{arith}
use lib.Dec.{leb}
use lib.IntN.{ℤ}
use borrow.Author.Tests.{leb-true}
use Rattle.std.specs.Prelude.{Ok, Err}
use Rattle.laws.specs.Tests.{both}
use Rattle.paper.specs.Answers.{missing}
use Rattle.paper.specs.declared.Missing.{Missing}
use Rattle.steps.specs.declared.Signed.{Signed}
use Rattle.steps.specs.declared.Signed.TheVariants.{Bits32, Bits64}
use Rattle.steps.specs.Step.{Num, fits}
use Rattle.steps.specs.Needs.{Need, number, met, all_met, verdict}
use Rattle.calibration.specs.declared.TemperatureWords.{TemperatureWords}
use Rattle.calibration.specs.declared.PressureWords.{PressureWords}
use Rattle.calibration.specs.declared.HumidityWords.{HumidityWords}
use Rattle.formula.specs.Answers.{answered}
use Rattle.formula_temperature.specs.Temperature as t
use Rattle.formula_temperature.specs.Needs.{temperature_needs}
use Rattle.formula_temperature.proofs.Needs as temperature-table
use Rattle.formula_pressure.specs.Pressure as p
use Rattle.formula_pressure.specs.Needs.{pressure_needs}
use Rattle.formula_pressure.proofs.Needs as pressure-table
use Rattle.formula_humidity.specs.Humidity as h
use Rattle.formula_humidity.specs.Needs.{humidity_needs}
use Rattle.formula_humidity.proofs.Needs as humidity-table
use Rattle.formula_exact.specs.Within.{TemperatureWithin, PressureWithin, Within, Numbers}
use Rattle.formula_exact.proofs.Exact.{met_at, ranged, temperature-given, pressure-given}

-- ---- values

module _ (words : TemperatureWords) (count : ℕ) (all : all_met Bits32 (temperature_needs words count) ≡ true) where
  value-fits : fits Bits32 (t.plain_temperature words count) ≡ true
  unfolding temperature_needs t.plain_fine t.plain_temperature
  value-fits = met_at Bits32 (temperature_needs words count) 16 all

  fine-fits : fits Bits32 (t.plain_fine words count) ≡ true
  unfolding temperature_needs t.plain_fine
  fine-fits = met_at Bits32 (temperature_needs words count) 13 all

pub temperature-within : TemperatureWithin
temperature-within words count value fine e =
    let x = (temperature-given words count value fine).0 e in
    (ap (fits Bits32) x.value-is ∙ value-fits words count x.needs-met, ap (fits Bits32) x.fine-is ∙ fine-fits words count x.needs-met)

pub pressure-within : PressureWithin
pressure-within words fine count value e =
    let x = (pressure-given words fine count value).0 e in
    leb-true value 4294967295 (ap p.is_pressure x.value-is ∙ ranged words fine count x.needs-met)

-- ---- numbers

never : {P : Type 0} → ◌≡◌ {A = ℕ} 0 1 → P
never z = absurd (omega arith)

-- of numbers from one to another
module _ (low high : ℕ) where
  unfoldable numbered : List Need → Bool
  numbered [] = true
  numbered (d ∷ ds) = (leb low (number d) && leb (number d) high) && numbered ds

  broke : (w : Signed) (ds : List Need) (z : ℤ) (m : Missing) → numbered ds ≡ true → verdict w ds z ≡ Err m → Within low high m
  unfolding verdict numbered
  broke w [] z m a e = never cc
  broke w (d ∷ ds) z m a e = go (met w d) (both (leb low (number d) && leb (number d) high) (numbered ds) a) (broke w ds z m) e
    where
      go : (t : Bool) → (leb low (number d) && leb (number d) high ≡ true) × (numbered ds ≡ true)
          → (numbered ds ≡ true → verdict w ds z ≡ Err m → Within low high m)
          → cond t (verdict w ds z) (Err (missing (number d))) ≡ Err m → Within low high m
      go true k later h = later k.1 h
      go false k later h =
          let same : missing (number d) ≡ m = cc in
          let b = both (leb low (number d)) (leb (number d) high) k.0 in
          subst (Within low high) same (leb-true low (number d) b.0, leb-true (number d) high b.1)

  -- an answer that is missing has the verdict's number
  temperature-broke : (ds : List Need) (v f : ℤ) (m : Missing) → numbered ds ≡ true → t.with_fine f (verdict Bits32 ds v) ≡ Err m → Within low high m
  temperature-broke ds v f m a e = go (verdict Bits32 ds v) refl e
    where
      go : (x : Num) → verdict Bits32 ds v ≡ x → t.with_fine f x ≡ Err m → Within low high m
      go (Ok x) is k = never cc
      go (Err n) is k = let same : n ≡ m = cc in subst (Within low high) same (broke Bits32 ds v n a is)

  channel-broke : (w : Signed) (ds : List Need) (v : ℤ) (m : Missing) → numbered ds ≡ true → answered (verdict w ds v) ≡ Err m → Within low high m
  channel-broke w ds v m a e = go (verdict w ds v) refl e
    where
      go : (x : Num) → verdict w ds v ≡ x → answered x ≡ Err m → Within low high m
      go (Ok x) is k = never cc
      go (Err n) is k = let same : n ≡ m = cc in subst (Within low high) same (broke w ds v n a is)

temperature-numbered : (words : TemperatureWords) (count : ℕ) → numbered 12 12 (temperature_needs words count) ≡ true
unfolding numbered temperature_needs
temperature-numbered words count = refl

pressure-numbered : (words : PressureWords) (fine : ℤ) (count : ℕ) → numbered 12 14 (pressure_needs words fine count) ≡ true
unfolding numbered pressure_needs
pressure-numbered words fine count = refl

humidity-numbered : (words : HumidityWords) (fine : ℤ) (count : ℕ) → numbered 12 12 (humidity_needs words fine count) ≡ true
unfolding numbered humidity_needs
humidity-numbered words fine count = refl

pub numbers : Numbers
numbers =
    record {
      temperature = λ words count m e.
          temperature-broke 12 12 (temperature_needs words count) (t.plain_temperature words count) (t.plain_fine words count) m (temperature-numbered words count)
          (sym (temperature-table.first-decides words count) ∙ e);
      pressure = λ words fine count m e.
          channel-broke 12 14 Bits64 (pressure_needs words fine count) (p.plain_pressure words fine count) m (pressure-numbered words fine count)
          (sym (pressure-table.first-decides words fine count) ∙ e);
      humidity = λ words fine count m e.
          channel-broke 12 12 Bits32 (humidity_needs words fine count) (h.plain_humidity words fine count) m (humidity-numbered words fine count)
          (sym (humidity-table.first-decides words fine count) ∙ e);
    }
