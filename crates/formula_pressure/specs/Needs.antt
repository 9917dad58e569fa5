-- The needs of the pressure, step by step in the order of evaluation that the maker's brackets give, operands left first: 35 steps, with the
-- zero test where the maker has it, and the test of the range after the last step.
use Rattle.std.specs.Prelude.{ℕ, ◌≡◌, List, [], ◌∷◌, ℤ, pos, negsuc, ◌+ℤ◌, ◌-ℤ◌, ◌*ℤ◌, Err}
use Rattle.paper.specs.Numbers as no
use Rattle.paper.specs.Answers.{missing}
use Rattle.steps.specs.declared.Signed.TheVariants.{Bits64}
use Rattle.steps.specs.Step.{is_nonzero}
use Rattle.steps.specs.Needs.{Need, fit, hold, step, check, verdict, ◌/ℤ◌, ◌<<ℤ◌, ◌>>ℤ◌}
use Rattle.calibration.specs.declared.PressureWords.{PressureWords}
use Rattle.formula.specs.Answers.{answered}
use Rattle.formula_pressure.specs.Pressure.{is_pressure, pressure_of, plain_pressure}

unfoldable pub pressure_needs : PressureWords → ℤ → ℕ → List Need
pressure_needs words fine count =
    let adc = pos count in
    let P1 = pos words.p1 in
    let P2 = words.p2 in
    let P3 = words.p3 in
    let P4 = words.p4 in
    let P5 = words.p5 in
    let P6 = words.p6 in
    let P7 = words.p7 in
    let P8 = words.p8 in
    let P9 = words.p9 in
    -- var1 = t_fine - 128000;
    step (fine -ℤ pos 128000) λ s1.
    -- var2 = var1 * var1 * P6;
    step (s1 *ℤ s1) λ s2.
    step (s2 *ℤ P6) λ s3.
    -- var2 = var2 + ((var1 * P5) << 17);
    step (s1 *ℤ P5) λ s4.
    step (s4 <<ℤ 17) λ s5.
    step (s3 +ℤ s5) λ s6.
    -- var2 = var2 + (P4 << 35);
    step (P4 <<ℤ 35) λ s7.
    step (s6 +ℤ s7) λ s8.
    -- var1 = ((var1 * var1 * P3) >> 8) + ((var1 * P2) << 12);
    step (s1 *ℤ s1) λ s9.
    step (s9 *ℤ P3) λ s10.
    step (s10 >>ℤ 8) λ s11.
    step (s1 *ℤ P2) λ s12.
    step (s12 <<ℤ 12) λ s13.
    step (s11 +ℤ s13) λ s14.
    -- var1 = (((1 << 47) + var1)) * P1 >> 33;
    step (pos 1 <<ℤ 47) λ s15.
    step (s15 +ℤ s14) λ s16.
    step (s16 *ℤ P1) λ s17.
    step (s17 >>ℤ 33) λ s18.
    -- if (var1 == 0) return 0;  (13 in the place of the 0)
    check (is_nonzero s18) no.divisor_zero λ _.
    -- p = 1048576 - adc_P;
    step (pos 1048576 -ℤ adc) λ s19.
    -- p = (((p << 31) - var2) * 3125) / var1;
    step (s19 <<ℤ 31) λ s20.
    step (s20 -ℤ s8) λ s21.
    step (s21 *ℤ pos 3125) λ s22.
    step (s22 /ℤ s18) λ s23.
    -- var1 = (P9 * (p >> 13) * (p >> 13)) >> 25;
    step (s23 >>ℤ 13) λ s24.
    step (P9 *ℤ s24) λ s25.
    step (s23 >>ℤ 13) λ s26.
    step (s25 *ℤ s26) λ s27.
    step (s27 >>ℤ 25) λ s28.
    -- var2 = (P8 * p) >> 19;
    step (P8 *ℤ s23) λ s29.
    step (s29 >>ℤ 19) λ s30.
    -- p = ((p + var1 + var2) >> 8) + (P7 << 4);
    step (s23 +ℤ s28) λ s31.
    step (s31 +ℤ s30) λ s32.
    step (s32 >>ℤ 8) λ s33.
    step (P7 <<ℤ 4) λ s34.
    step (s33 +ℤ s34) λ s35.
    -- from 0 to 4294967295, after all steps
    check (is_pressure s35) no.pressure_outside λ _.
    []

-- the first need that is not met decides, and where all are met the value is that of the maker's formula with no check
abbrev pub FirstDecides : Type 0
FirstDecides =
    (words : PressureWords) (fine : ℤ) (count : ℕ) →
    pressure_of words fine count ≡ answered (verdict Bits64 (pressure_needs words fine count) (plain_pressure words fine count))

-- ---- where the zero test stands

-- the same needs with no test among them
unfoldable pub steps_alone : List Need → List Need
steps_alone [] = []
steps_alone (fit z ∷ later) = fit z ∷ steps_alone later
steps_alone (hold b number ∷ later) = steps_alone later

-- K2's words, but for P1 = 0 and P4 = -32768
abbrev pub words : PressureWords
words = record {
  p1 = 0;
  p2 = negsuc 10684;
  p3 = pos 3024;
  p4 = negsuc 32767;
  p5 = pos 140;
  p6 = negsuc 6;
  p7 = pos 15500;
  p8 = negsuc 14599;
  p9 = pos 6000;
}

-- at the fine temperature 128422 and the count 0 the divisor is zero, and a step after the zero test leaves its type: the test decides
pub record ZeroTestFirst : Type 0 where
  pub zero-decides : pressure_of words (pos 128422) 0 ≡ Err (missing no.divisor_zero)
  pub step-fails-too : (z : ℤ) → verdict Bits64 (steps_alone (pressure_needs words (pos 128422) 0)) z ≡ Err (missing no.left_its_type)
