-- The maker's formula of the pressure, line by line as work over signed 64 bits; its answer; and the same lines with no check.
use Rattle.std.specs.Prelude.{ℕ, Bool, false, leb, ℤ, pos, negsuc, ◌+ℤ◌, ◌-ℤ◌, ◌*ℤ◌}
use Rattle.paper.specs.Numbers as no
use Rattle.steps.specs.declared.Signed.TheVariants.{Bits64}
use Rattle.steps.specs.Step.{is_nonzero}
use Rattle.steps.specs.Work.{Work, given, num, share, test, run, ◌+ʷ◌, ◌-ʷ◌, ◌*ʷ◌, ◌/ʷ◌, ◌<<◌, ◌>>◌}
use Rattle.steps.specs.Needs.{◌/ℤ◌, ◌<<ℤ◌, ◌>>ℤ◌}
use Rattle.calibration.specs.declared.PressureWords.{PressureWords}
use Rattle.formula.specs.Answers.{ChannelAnswer, answered}

-- var1 = t_fine - 128000;
unfoldable pub difference_line : ℤ → Work
difference_line fine = given fine -ʷ num 128000

-- var2 = var1 * var1 * P6;
-- var2 = var2 + ((var1 * P5) << 17);
-- var2 = var2 + (P4 << 35);
unfoldable pub offset_lines : PressureWords → ℤ → Work
offset_lines words difference =
    let P4 = given words.p4 in
    let P5 = given words.p5 in
    let P6 = given words.p6 in
    let var1 = given difference in
    share (var1 *ʷ var1 *ʷ P6) λ var2.
    share (given var2 +ʷ (var1 *ʷ P5 << 17)) λ var2.
    given var2 +ʷ (P4 << 35)

-- var1 = ((var1 * var1 * P3) >> 8) + ((var1 * P2) << 12);
-- var1 = (((1 << 47) + var1)) * P1 >> 33;
unfoldable pub scale_lines : PressureWords → ℤ → Work
scale_lines words difference =
    let P1 = num words.p1 in
    let P2 = given words.p2 in
    let P3 = given words.p3 in
    let var1 = given difference in
    share ((var1 *ʷ var1 *ʷ P3 >> 8) +ʷ (var1 *ʷ P2 << 12)) λ var1.
    ((num 1 << 47) +ʷ given var1) *ʷ P1 >> 33

-- if (var1 == 0) return 0;  (here the number for a divisor zero in the place of the 0)
unfoldable pub divisor_lines : PressureWords → ℤ → Work
divisor_lines words difference = test is_nonzero no.divisor_zero (scale_lines words difference)

-- p = 1048576 - adc_P;
-- p = (((p << 31) - var2) * 3125) / var1;
unfoldable pub quotient_lines : ℕ → ℤ → ℤ → Work
quotient_lines count var2 var1 =
    let adc = num count in
    share (num 1048576 -ʷ adc) λ p.
    ((given p << 31) -ʷ given var2) *ʷ num 3125 /ʷ given var1

-- var1 = (P9 * (p >> 13) * (p >> 13)) >> 25;
unfoldable pub curve_line : PressureWords → ℤ → Work
curve_line words p =
    let P9 = given words.p9 in
    P9 *ʷ (given p >> 13) *ʷ (given p >> 13) >> 25

-- var2 = (P8 * p) >> 19;
unfoldable pub slope_line : PressureWords → ℤ → Work
slope_line words p =
    let P8 = given words.p8 in
    P8 *ʷ given p >> 19

-- p = ((p + var1 + var2) >> 8) + (P7 << 4);
unfoldable pub last_line : PressureWords → ℤ → ℤ → ℤ → Work
last_line words p var1 var2 =
    let P7 = given words.p7 in
    (given p +ʷ given var1 +ʷ given var2 >> 8) +ʷ (P7 << 4)

-- the lines after the division
unfoldable pub refined_lines : PressureWords → ℤ → Work
refined_lines words p =
    share (curve_line words p) λ var1.
    share (slope_line words p) λ var2.
    last_line words p var1 var2

unfoldable pub pressure_lines : PressureWords → ℤ → ℕ → Work
pressure_lines words fine count =
    share (difference_line fine) λ difference.
    share (offset_lines words difference) λ var2.
    share (divisor_lines words difference) λ var1.
    share (quotient_lines count var2 var1) λ p.
    refined_lines words p

-- from 0 to 4294967295, after all steps
abbrev pub is_pressure : ℤ → Bool
is_pressure (pos n) = leb n 4294967295
is_pressure (negsuc n) = false

unfoldable pub pressure_formula : PressureWords → ℤ → ℕ → Work
pressure_formula words fine count = test is_pressure no.pressure_outside (pressure_lines words fine count)

-- ---- the answer

unfoldable pub pressure_of : PressureWords → ℤ → ℕ → ChannelAnswer
pressure_of words fine count = answered (run Bits64 (pressure_formula words fine count))

-- ---- the lines over whole numbers, with no check

unfoldable pub plain_divisor : PressureWords → ℤ → ℤ
plain_divisor words fine =
    let P1 = pos words.p1 in
    let P2 = words.p2 in
    let P3 = words.p3 in
    let var1 = fine -ℤ pos 128000 in
    let var1 = (var1 *ℤ var1 *ℤ P3 >>ℤ 8) +ℤ (var1 *ℤ P2 <<ℤ 12) in
    ((pos 1 <<ℤ 47) +ℤ var1) *ℤ P1 >>ℤ 33

unfoldable pub plain_pressure : PressureWords → ℤ → ℕ → ℤ
unfolding plain_divisor
plain_pressure words fine count =
    let adc = pos count in
    let P4 = words.p4 in
    let P5 = words.p5 in
    let P6 = words.p6 in
    let P7 = words.p7 in
    let P8 = words.p8 in
    let P9 = words.p9 in
    let var1 = fine -ℤ pos 128000 in
    let var2 = var1 *ℤ var1 *ℤ P6 in
    let var2 = var2 +ℤ (var1 *ℤ P5 <<ℤ 17) in
    let var2 = var2 +ℤ (P4 <<ℤ 35) in
    let var1 = plain_divisor words fine in
    let p = pos 1048576 -ℤ adc in
    let p = ((p <<ℤ 31) -ℤ var2) *ℤ pos 3125 /ℤ var1 in
    let var1 = P9 *ℤ (p >>ℤ 13) *ℤ (p >>ℤ 13) >>ℤ 25 in
    let var2 = P8 *ℤ p >>ℤ 19 in
    (p +ℤ var1 +ℤ var2 >>ℤ 8) +ℤ (P7 <<ℤ 4)
