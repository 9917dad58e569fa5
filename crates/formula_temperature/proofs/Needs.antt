-- The temperature's work has the needs of the table, in the table's order, and so the first that is not met decides.
use Prim.Native.Nat.{ℕ}
use mathlib.Core.Path.{◌≡◌, refl, sym, ap, ◌∙◌}
use lib.IntN.{ℤ}
use Rattle.steps.specs.declared.Signed.TheVariants.{Bits32}
use Rattle.std.specs.Prelude.{Ok, Err}
use Rattle.steps.specs.Step.{Num, on_value}
use Rattle.steps.specs.Needs.{verdict}
use Rattle.steps.specs.Work.{plain, needs, run}
use Rattle.steps.proofs.Exactness.{exact, plain_value}
use Rattle.calibration.specs.declared.TemperatureWords.{TemperatureWords}
use Rattle.formula_temperature.specs.Temperature as t
use Rattle.formula_temperature.specs.Temperature.{fine_lines, degrees_line, temperature_formula, temperature_of, from_fine, with_fine, plain_fine, plain_temperature}
use Rattle.formula_temperature.specs.Needs.{temperature_needs, FirstDecides}

module _ (words : TemperatureWords) (count : ℕ) where
  pub needs-are : needs (temperature_formula words count) ≡ temperature_needs words count
  unfolding needs plain t.slope_line t.curve_line fine_lines degrees_line temperature_formula temperature_needs
  needs-are = refl

  fine-plain : plain (fine_lines words count) ≡ plain_fine words count
  unfolding plain t.slope_line t.curve_line fine_lines plain_fine
  fine-plain = refl

  temperature-plain : plain (temperature_formula words count) ≡ plain_temperature words count
  unfolding plain t.slope_line t.curve_line fine_lines plain_fine degrees_line temperature_formula plain_temperature
  temperature-plain = refl

  formula-is : run Bits32 (temperature_formula words count) ≡ on_value (run Bits32 (fine_lines words count)) (λ fine. run Bits32 (degrees_line fine))
  unfolding run temperature_formula
  formula-is = refl

  answer-is : temperature_of words count ≡ from_fine (run Bits32 (fine_lines words count))
  unfolding temperature_of
  answer-is = refl

  whole : run Bits32 (temperature_formula words count) ≡ verdict Bits32 (temperature_needs words count) (plain_temperature words count)
  whole = rw (exact Bits32 (temperature_formula words count), needs-are, temperature-plain)

  -- by the fine temperature's answer: its value is the plain one, and its refusal is the formula's
  by-fine : (a : Num) → run Bits32 (fine_lines words count) ≡ a → from_fine a ≡ with_fine (plain_fine words count) (on_value a (λ fine. run Bits32 (degrees_line fine)))
  unfolding on_value
  by-fine (Ok fine) e = ap (λ (f : ℤ). with_fine f (run Bits32 (degrees_line fine))) (plain_value Bits32 (fine_lines words count) fine e ∙ fine-plain)
  by-fine (Err m) e = refl

  decides : temperature_of words count ≡ with_fine (plain_fine words count) (verdict Bits32 (temperature_needs words count) (plain_temperature words count))
  decides = answer-is ∙ by-fine (run Bits32 (fine_lines words count)) refl ∙ ap (with_fine (plain_fine words count)) (sym formula-is ∙ whole)

pub first-decides : FirstDecides
first-decides = decides
