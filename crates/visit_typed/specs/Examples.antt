-- Values read, by the definitions.
use Rattle.std.specs.Prelude.{◌∷◌, ◌++◌, ◌≡◌, refl, Ok, Err}
use Rattle.bench_page.specs.Page.{letters}
use Rattle.visit.specs.Steps.{value, missing as absent}
use Rattle.visit_typed.specs.declared.Fault.TheVariants.{Unwritten, Outside, Uneven, NoReason}
use Rattle.visit_typed.specs.Typed as typed

pub seconds : typed.time (letters "1700000000") ≡ Ok (value 1700000000)
unfolding typed.time typed.number typed.digits_on typed.digit typed.with_digit typed.is_decimal typed.digits
seconds = refl

pub too-late : typed.time (letters "4294967296") ≡ Err Outside
unfolding typed.time typed.number typed.digits_on typed.digit typed.with_digit typed.is_decimal typed.digits
too-late = refl

pub cold : typed.temperature (letters "-0.05 " ++ (0xC2 ∷ 0xB0 ∷ letters "C")) ≡ Ok (value 0xFFFFFFFB)
unfolding typed.temperature typed.degrees typed.celsius typed.below_zero typed.amount typed.is_point typed.is_decimal typed.digits_on typed.part_on typed.digit_at typed.digit typed.with_digit typed.digits typed.part
cold = refl

pub pressed : typed.pressure (letters "100653.25390625 Pa") ≡ Ok (value 25767233)
unfolding typed.pressure typed.amount typed.is_point typed.is_decimal typed.digits_on typed.part_on typed.digit_at typed.digit typed.with_digit typed.digits typed.part typed.scaled typed.counted
pressed = refl

pub uneven : typed.pressure (letters "16777215.996 Pa") ≡ Err Uneven
unfolding typed.pressure typed.amount typed.is_point typed.is_decimal typed.digits_on typed.part_on typed.digit_at typed.digit typed.with_digit typed.digits typed.part typed.scaled typed.counted
uneven = refl

pub damp : typed.humidity (letters "36.8857421875 %RH") ≡ Ok (value 37771)
unfolding typed.humidity typed.amount typed.is_point typed.is_decimal typed.digits_on typed.part_on typed.digit_at typed.digit typed.with_digit typed.digits typed.part typed.scaled typed.counted
damp = refl

pub skipped : typed.humidity (letters "missing 10") ≡ Ok (absent 10)
unfolding typed.humidity typed.missing typed.number typed.digits_on typed.is_decimal typed.digit typed.with_digit typed.digits typed.scaled typed.counted
skipped = refl

pub no-reason : typed.humidity (letters "missing 15") ≡ Err NoReason
unfolding typed.humidity typed.missing typed.number typed.digits_on typed.is_decimal typed.digit typed.with_digit typed.digits typed.scaled typed.counted
no-reason = refl

pub no-unit : typed.humidity (letters "36.5%RH") ≡ Err Unwritten
unfolding typed.humidity typed.amount typed.is_point typed.is_decimal typed.digits_on typed.part_on typed.digit_at typed.digit typed.with_digit typed.digits typed.part typed.scaled typed.counted
no-unit = refl
