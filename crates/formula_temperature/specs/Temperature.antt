-- The maker's formula of the temperature, line by line as work over signed 32 bits; its answer; and the same lines with no check.
use Rattle.std.specs.Prelude.{ℕ, ℤ, pos, ◌+ℤ◌, ◌-ℤ◌, ◌*ℤ◌, Ok, Err}
use Rattle.steps.specs.declared.Signed.TheVariants.{Bits32}
use Rattle.steps.specs.Step.{Num}
use Rattle.steps.specs.Work.{Work, given, num, share, run, ◌+ʷ◌, ◌-ʷ◌, ◌*ʷ◌, ◌<<◌, ◌>>◌}
use Rattle.steps.specs.Needs.{◌<<ℤ◌, ◌>>ℤ◌}
use Rattle.calibration.specs.declared.TemperatureWords.{TemperatureWords}
use Rattle.formula.specs.Answers.{TemperatureAnswer}

-- var1 = ((((adc_T >> 3) - (T1 << 1))) * T2) >> 11;
unfoldable pub slope_line : TemperatureWords → ℕ → Work
slope_line words count =
    let adc = num count in
    let T1 = num words.t1 in
    let T2 = given words.t2 in
    ((adc >> 3) -ʷ (T1 << 1)) *ʷ T2 >> 11

-- var2 = (((((adc_T >> 4) - T1) * ((adc_T >> 4) - T1)) >> 12) * T3) >> 14;
unfoldable pub curve_line : TemperatureWords → ℕ → Work
curve_line words count =
    let adc = num count in
    let T1 = num words.t1 in
    let T3 = given words.t3 in
    (((adc >> 4) -ʷ T1) *ʷ ((adc >> 4) -ʷ T1) >> 12) *ʷ T3 >> 14

-- t_fine = var1 + var2;
unfoldable pub fine_lines : TemperatureWords → ℕ → Work
fine_lines words count =
    share (slope_line words count) λ var1.
    share (curve_line words count) λ var2.
    given var1 +ʷ given var2

-- T = (t_fine * 5 + 128) >> 8;
unfoldable pub degrees_line : ℤ → Work
degrees_line fine = given fine *ʷ num 5 +ʷ num 128 >> 8

unfoldable pub temperature_formula : TemperatureWords → ℕ → Work
temperature_formula words count = share (fine_lines words count) λ fine. degrees_line fine

-- ---- the answer: the temperature and the fine temperature, absent together

abbrev pub with_fine : ℤ → Num → TemperatureAnswer
with_fine fine (Ok value) = Ok (record { value = value; fine = fine })
with_fine fine (Err m) = Err m

abbrev pub from_fine : Num → TemperatureAnswer
from_fine (Ok fine) = with_fine fine (run Bits32 (degrees_line fine))
from_fine (Err m) = Err m

unfoldable pub temperature_of : TemperatureWords → ℕ → TemperatureAnswer
temperature_of words count = from_fine (run Bits32 (fine_lines words count))

-- ---- the lines over whole numbers, with no check

unfoldable pub plain_fine : TemperatureWords → ℕ → ℤ
plain_fine words count =
    let adc = pos count in
    let T1 = pos words.t1 in
    let T2 = words.t2 in
    let T3 = words.t3 in
    let var1 = ((adc >>ℤ 3) -ℤ (T1 <<ℤ 1)) *ℤ T2 >>ℤ 11 in
    let var2 = (((adc >>ℤ 4) -ℤ T1) *ℤ ((adc >>ℤ 4) -ℤ T1) >>ℤ 12) *ℤ T3 >>ℤ 14 in
    var1 +ℤ var2

unfoldable pub plain_temperature : TemperatureWords → ℕ → ℤ
plain_temperature words count = plain_fine words count *ℤ pos 5 +ℤ pos 128 >>ℤ 8
