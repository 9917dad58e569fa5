-- The humidity's work has the needs of the table, in the table's order, and so the first that is not met decides.
use Prim.Native.Nat.{ℕ}
use mathlib.Core.Path.{◌≡◌, refl}
use lib.IntN.{ℤ}
use Rattle.steps.specs.declared.Signed.TheVariants.{Bits32}
use Rattle.steps.specs.Needs.{verdict}
use Rattle.steps.specs.Work.{plain, needs, run}
use Rattle.steps.proofs.Exactness.{exact}
use Rattle.calibration.specs.declared.HumidityWords.{HumidityWords}
use Rattle.formula.specs.Answers.{answered}
use Rattle.formula_humidity.specs.Humidity as h
use Rattle.formula_humidity.specs.Humidity.{humidity_formula, humidity_of, plain_humidity}
use Rattle.formula_humidity.specs.Needs.{humidity_needs, FirstDecides}

module _ (words : HumidityWords) (fine : ℤ) (count : ℕ) where
  needs-are : needs (humidity_formula words fine count) ≡ humidity_needs words fine count
  unfolding needs plain h.difference_line h.level_factor h.bend_factor h.gain_factor h.product_line h.correction_line h.humidity_lines h.last_line humidity_formula humidity_needs
  needs-are = refl

  humidity-plain : plain (humidity_formula words fine count) ≡ plain_humidity words fine count
  unfolding plain h.difference_line h.level_factor h.bend_factor h.gain_factor h.product_line h.correction_line h.humidity_lines h.last_line humidity_formula plain_humidity
  humidity-plain = refl

  answer-is : humidity_of words fine count ≡ answered (run Bits32 (humidity_formula words fine count))
  unfolding humidity_of
  answer-is = refl

  decides : humidity_of words fine count ≡ answered (verdict Bits32 (humidity_needs words fine count) (plain_humidity words fine count))
  decides = rw (answer-is, exact Bits32 (humidity_formula words fine count), needs-are, humidity-plain)

pub first-decides : FirstDecides
first-decides = decides
