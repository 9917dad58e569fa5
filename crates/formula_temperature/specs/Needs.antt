-- The needs of the temperature, step by step in the order of evaluation that the maker's brackets give, operands left first: 17 steps.
use Rattle.std.specs.Prelude.{ℕ, ◌≡◌, List, [], pos, ◌+ℤ◌, ◌-ℤ◌, ◌*ℤ◌}
use Rattle.steps.specs.declared.Signed.TheVariants.{Bits32}
use Rattle.steps.specs.Needs.{Need, step, verdict, ◌<<ℤ◌, ◌>>ℤ◌}
use Rattle.calibration.specs.declared.TemperatureWords.{TemperatureWords}
use Rattle.formula_temperature.specs.Temperature.{with_fine, temperature_of, plain_fine, plain_temperature}

unfoldable pub temperature_needs : TemperatureWords → ℕ → List Need
temperature_needs words count =
    let adc = pos count in
    let T1 = pos words.t1 in
    let T2 = words.t2 in
    let T3 = words.t3 in
    -- var1 = ((((adc_T >> 3) - (T1 << 1))) * T2) >> 11;
    step (adc >>ℤ 3) λ s1.
    step (T1 <<ℤ 1) λ s2.
    step (s1 -ℤ s2) λ s3.
    step (s3 *ℤ T2) λ s4.
    step (s4 >>ℤ 11) λ s5.
    -- var2 = (((((adc_T >> 4) - T1) * ((adc_T >> 4) - T1)) >> 12) * T3) >> 14;
    step (adc >>ℤ 4) λ s6.
    step (s6 -ℤ T1) λ s7.
    step (adc >>ℤ 4) λ s8.
    step (s8 -ℤ T1) λ s9.
    step (s7 *ℤ s9) λ s10.
    step (s10 >>ℤ 12) λ s11.
    step (s11 *ℤ T3) λ s12.
    step (s12 >>ℤ 14) λ s13.
    -- t_fine = var1 + var2;
    step (s5 +ℤ s13) λ s14.
    -- T = (t_fine * 5 + 128) >> 8;
    step (s14 *ℤ pos 5) λ s15.
    step (s15 +ℤ pos 128) λ s16.
    step (s16 >>ℤ 8) λ s17.
    []

-- the first need that is not met decides, and where all are met the values are those of the maker's formula with no check
abbrev pub FirstDecides : Type 0
FirstDecides =
    (words : TemperatureWords) (count : ℕ) →
    temperature_of words count
    ≡ with_fine (plain_fine words count) (verdict Bits32 (temperature_needs words count) (plain_temperature words count))
