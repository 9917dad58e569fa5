-- The needs of the humidity, step by step in the order of evaluation that the maker's brackets give, operands left first: 28 steps.
-- The clamp before the last is no step.
use Rattle.std.specs.Prelude.{ℕ, ◌≡◌, List, [], ℤ, pos, ◌+ℤ◌, ◌-ℤ◌, ◌*ℤ◌}
use Rattle.steps.specs.declared.Signed.TheVariants.{Bits32}
use Rattle.steps.specs.Needs.{Need, step, verdict, ◌<<ℤ◌, ◌>>ℤ◌}
use Rattle.calibration.specs.declared.HumidityWords.{HumidityWords}
use Rattle.formula.specs.Answers.{answered}
use Rattle.formula_humidity.specs.Humidity.{clamped, humidity_of, plain_humidity}

unfoldable pub humidity_needs : HumidityWords → ℤ → ℕ → List Need
humidity_needs words fine count =
    let adc = pos count in
    let H1 = pos words.h1 in
    let H2 = words.h2 in
    let H3 = pos words.h3 in
    let H4 = words.h4 in
    let H5 = words.h5 in
    let H6 = words.h6 in
    -- v = (t_fine - 76800);
    step (fine -ℤ pos 76800) λ s1.
    -- v = (((((adc_H << 14) - (H4 << 20) - (H5 * v)) + 16384) >> 15)
    step (adc <<ℤ 14) λ s2.
    step (H4 <<ℤ 20) λ s3.
    step (s2 -ℤ s3) λ s4.
    step (H5 *ℤ s1) λ s5.
    step (s4 -ℤ s5) λ s6.
    step (s6 +ℤ pos 16384) λ s7.
    step (s7 >>ℤ 15) λ s8.
    --     * (((((((v * H6) >> 10) * (((v * H3) >> 11) + 32768)) >> 10)
    step (s1 *ℤ H6) λ s9.
    step (s9 >>ℤ 10) λ s10.
    step (s1 *ℤ H3) λ s11.
    step (s11 >>ℤ 11) λ s12.
    step (s12 +ℤ pos 32768) λ s13.
    step (s10 *ℤ s13) λ s14.
    step (s14 >>ℤ 10) λ s15.
    --     + 2097152) * H2 + 8192) >> 14));
    step (s15 +ℤ pos 2097152) λ s16.
    step (s16 *ℤ H2) λ s17.
    step (s17 +ℤ pos 8192) λ s18.
    step (s18 >>ℤ 14) λ s19.
    step (s8 *ℤ s19) λ s20.
    -- v = (v - (((((v >> 15) * (v >> 15)) >> 7) * H1) >> 4));
    step (s20 >>ℤ 15) λ s21.
    step (s20 >>ℤ 15) λ s22.
    step (s21 *ℤ s22) λ s23.
    step (s23 >>ℤ 7) λ s24.
    step (s24 *ℤ H1) λ s25.
    step (s25 >>ℤ 4) λ s26.
    step (s20 -ℤ s26) λ s27.
    -- v = (v < 0 ? 0 : v), v = (v > 419430400 ? 419430400 : v), return v >> 12;
    step (clamped s27 >>ℤ 12) λ s28.
    []

-- the first need that is not met decides, and where all are met the value is that of the maker's formula with no check
abbrev pub FirstDecides : Type 0
FirstDecides =
    (words : HumidityWords) (fine : ℤ) (count : ℕ) →
    humidity_of words fine count ≡ answered (verdict Bits32 (humidity_needs words fine count) (plain_humidity words fine count))
