-- Values as text, by the definitions.
use Rattle.std.specs.Prelude.{◌∷◌, ◌++◌, ◌≡◌, refl}
use Rattle.bench_page.specs.Page.{letters}
use Rattle.bench_page.specs.Digits as spelt
use Rattle.bench_row.specs.Row.{filled_from}
use Rattle.visit_figures.specs.Figures.{hundredths, degrees, temperature, amount, decimals, pascals, pressure, percent, humidity, reason, missing}

pub warm : temperature 2508 ≡ letters "25.08 " ++ (0xC2 ∷ 0xB0 ∷ letters "C")
unfolding temperature degrees hundredths filled_from spelt.decimal spelt.spelled
warm = refl

pub below-zero : temperature 0xFFFFFFFB ≡ letters "-0.05 " ++ (0xC2 ∷ 0xB0 ∷ letters "C")
unfolding temperature degrees hundredths filled_from spelt.decimal spelt.spelled
below-zero = refl

pub coldest : temperature 0x80000000 ≡ letters "-21474836.48 " ++ (0xC2 ∷ 0xB0 ∷ letters "C")
unfolding temperature degrees hundredths filled_from spelt.decimal spelt.spelled
coldest = refl

pub pressed : pressure 25767233 ≡ letters "100653.25390625 Pa"
unfolding pressure pascals amount decimals spelt.decimal spelt.spelled
pressed = refl

pub whole : pressure 25767168 ≡ letters "100653 Pa"
unfolding pressure pascals amount decimals spelt.decimal spelt.spelled
whole = refl

pub damp : humidity 37771 ≡ letters "36.8857421875 %RH"
unfolding humidity percent amount decimals spelt.decimal spelt.spelled
damp = refl

-- a true zero has a figure, and a missing answer has none
pub dry : humidity 0 ≡ letters "0 %RH"
unfolding humidity percent amount decimals spelt.decimal spelt.spelled
dry = refl

pub skipped : missing 10 ≡ letters "missing 10 (channel skipped)"
unfolding missing reason filled_from spelt.decimal spelt.spelled
skipped = refl
