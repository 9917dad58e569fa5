-- The maker's formula of the humidity, line by line as work over signed 32 bits; its answer; and the same lines with no check.
-- The maker's one variable v_x1_u32r is v here.
use Rattle.std.specs.Prelude.{ℕ, min, ℤ, pos, negsuc, ◌+ℤ◌, ◌-ℤ◌, ◌*ℤ◌}
use Rattle.steps.specs.declared.Signed.TheVariants.{Bits32}
use Rattle.steps.specs.Work.{Work, given, num, share, run, ◌+ʷ◌, ◌-ʷ◌, ◌*ʷ◌, ◌<<◌, ◌>>◌}
use Rattle.steps.specs.Needs.{◌<<ℤ◌, ◌>>ℤ◌}
use Rattle.calibration.specs.declared.HumidityWords.{HumidityWords}
use Rattle.formula.specs.Answers.{ChannelAnswer, answered}

-- v = (t_fine - 76800);
unfoldable pub difference_line : ℤ → Work
difference_line fine = given fine -ʷ num 76800

-- v = (((((adc_H << 14) - (H4 << 20) - (H5 * v)) + 16384) >> 15)
unfoldable pub level_factor : HumidityWords → ℕ → ℤ → Work
level_factor words count v =
    let adc = num count in
    let H4 = given words.h4 in
    let H5 = given words.h5 in
    (adc << 14) -ʷ (H4 << 20) -ʷ H5 *ʷ given v +ʷ num 16384 >> 15

--     * (((((((v * H6) >> 10) * (((v * H3) >> 11) + 32768)) >> 10)
unfoldable pub bend_factor : HumidityWords → ℤ → Work
bend_factor words v =
    let H3 = num words.h3 in
    let H6 = given words.h6 in
    (given v *ʷ H6 >> 10) *ʷ ((given v *ʷ H3 >> 11) +ʷ num 32768) >> 10

--     + 2097152) * H2 + 8192) >> 14));
unfoldable pub gain_factor : HumidityWords → ℤ → Work
gain_factor words v =
    let H2 = given words.h2 in
    (bend_factor words v +ʷ num 2097152) *ʷ H2 +ʷ num 8192 >> 14

unfoldable pub product_line : HumidityWords → ℕ → ℤ → Work
product_line words count v = level_factor words count v *ʷ gain_factor words v

-- v = (v - (((((v >> 15) * (v >> 15)) >> 7) * H1) >> 4));
unfoldable pub correction_line : HumidityWords → ℤ → Work
correction_line words v =
    let H1 = num words.h1 in
    given v -ʷ (((given v >> 15) *ʷ (given v >> 15) >> 7) *ʷ H1 >> 4)

unfoldable pub humidity_lines : HumidityWords → ℤ → ℕ → Work
humidity_lines words fine count =
    share (difference_line fine) λ v.
    share (product_line words count v) λ v.
    correction_line words v

-- v = (v < 0 ? 0 : v);
-- v = (v > 419430400 ? 419430400 : v);
abbrev pub clamped : ℤ → ℤ
clamped (pos n) = pos (min n 419430400)
clamped (negsuc n) = pos 0

-- return v >> 12;
unfoldable pub last_line : ℤ → Work
last_line v = given (clamped v) >> 12

unfoldable pub humidity_formula : HumidityWords → ℤ → ℕ → Work
humidity_formula words fine count = share (humidity_lines words fine count) λ v. last_line v

-- ---- the answer

unfoldable pub humidity_of : HumidityWords → ℤ → ℕ → ChannelAnswer
humidity_of words fine count = answered (run Bits32 (humidity_formula words fine count))

-- ---- the lines over whole numbers, with no check

unfoldable pub plain_humidity : HumidityWords → ℤ → ℕ → ℤ
plain_humidity words fine count =
    let adc = pos count in
    let H1 = pos words.h1 in
    let H2 = words.h2 in
    let H3 = pos words.h3 in
    let H4 = words.h4 in
    let H5 = words.h5 in
    let H6 = words.h6 in
    let v = fine -ℤ pos 76800 in
    let v =
    ((adc <<ℤ 14) -ℤ (H4 <<ℤ 20) -ℤ H5 *ℤ v +ℤ pos 16384 >>ℤ 15)
    *ℤ ((((v *ℤ H6 >>ℤ 10) *ℤ ((v *ℤ H3 >>ℤ 11) +ℤ pos 32768) >>ℤ 10) +ℤ pos 2097152) *ℤ H2 +ℤ pos 8192 >>ℤ 14) in
    let v = v -ℤ (((v >>ℤ 15) *ℤ (v >>ℤ 15) >>ℤ 7) *ℤ H1 >>ℤ 4) in
    clamped v >>ℤ 12
