-- The pressure's work has the needs of the table, in the table's order, and so the first that is not met decides. The work tests the divisor
-- once more right before it divides, which decides nothing.
use Prim.Native.Nat.{ℕ}
use mathlib.Core.Path.{◌≡◌, refl, sym, ap, ◌∙◌}
use mathlib.Core.List.{◌∷◌, ◌++◌}
use lib.IntN.{ℤ}
use lib.ListN.{take, drop}
use Rattle.paper.specs.Numbers as no
use Rattle.steps.specs.declared.Signed.TheVariants.{Bits64}
use Rattle.steps.specs.Step.{is_nonzero, on_value, on_values}
use Rattle.steps.specs.Needs.{Need, hold, verdict}
use Rattle.steps.specs.Work.{plain, needs, run}
use Rattle.steps.proofs.Exactness.{exact, again}
use Rattle.calibration.specs.declared.PressureWords.{PressureWords}
use Rattle.formula.specs.Answers.{answered}
use Rattle.formula_pressure.specs.Pressure as p
use Rattle.formula_pressure.specs.Pressure.{pressure_formula, pressure_of, plain_divisor, plain_pressure}
use Rattle.formula_pressure.specs.Needs.{pressure_needs, FirstDecides, steps_alone, ZeroTestFirst}

module _ (words : PressureWords) (fine : ℤ) (count : ℕ) where
  abbrev zero_test : Need
  zero_test = hold (is_nonzero (plain_divisor words fine)) no.divisor_zero

  -- the eighteen steps before the test, the four up to the division, and what follows
  table_is :
      pressure_needs words fine count
      ≡ take 18 (pressure_needs words fine count)
      ++ (zero_test ∷ (take 4 (drop 19 (pressure_needs words fine count)) ++ drop 23 (pressure_needs words fine count)))
  unfolding pressure_needs plain_divisor
  table_is = refl

  needs-are :
      needs (pressure_formula words fine count)
      ≡ take 18 (pressure_needs words fine count)
      ++ (zero_test ∷ (take 4 (drop 19 (pressure_needs words fine count)) ++ (zero_test ∷ drop 23 (pressure_needs words fine count))))
  unfolding needs plain p.difference_line p.offset_lines p.scale_lines p.divisor_lines p.quotient_lines p.curve_line p.slope_line p.last_line p.refined_lines
      p.pressure_lines pressure_formula pressure_needs plain_divisor
  needs-are = refl

  pressure-plain : plain (pressure_formula words fine count) ≡ plain_pressure words fine count
  unfolding plain p.difference_line p.offset_lines p.scale_lines p.divisor_lines p.quotient_lines p.curve_line p.slope_line p.last_line p.refined_lines
      p.pressure_lines pressure_formula plain_divisor plain_pressure
  pressure-plain = refl

  answer-is : pressure_of words fine count ≡ answered (run Bits64 (pressure_formula words fine count))
  unfolding pressure_of
  answer-is = refl

  decides : pressure_of words fine count ≡ answered (verdict Bits64 (pressure_needs words fine count) (plain_pressure words fine count))
  decides =
      answer-is
      ∙ ap answered
      (exact Bits64 (pressure_formula words fine count)
      ∙ rw (needs-are, pressure-plain) refl
      ∙ again Bits64 (take 18 (pressure_needs words fine count)) (take 4 (drop 19 (pressure_needs words fine count)))
      (drop 23 (pressure_needs words fine count)) (is_nonzero (plain_divisor words fine)) no.divisor_zero (plain_pressure words fine count)
      ∙ ap (λ ds. verdict Bits64 ds (plain_pressure words fine count)) (sym table_is))

pub first-decides : FirstDecides
first-decides = decides

pub zero-test-first : ZeroTestFirst
unfolding run on_value on_values verdict steps_alone pressure_needs pressure_formula pressure_of
    p.difference_line p.offset_lines p.scale_lines p.divisor_lines p.quotient_lines p.curve_line p.slope_line p.last_line p.refined_lines p.pressure_lines
zero-test-first = record { zero-decides = refl; step-fails-too = λ z. refl }
