-- Dates by the definitions.
use Rattle.std.specs.Prelude.{◌≡◌, refl}
use Rattle.visit_date.specs.Dates.{is_leap, year_days, month_days, walk, date}

pub first : date 0 ≡ record { year = 1970; month = 1; day = 1; hour = 0; minute = 0; second = 0 }
unfolding date walk year_days month_days is_leap
first = refl

pub afternoon : date 1700000000 ≡ record { year = 2023; month = 11; day = 14; hour = 22; minute = 13; second = 20 }
unfolding date walk year_days month_days is_leap
afternoon = refl

pub leap-day : date 951868799 ≡ record { year = 2000; month = 2; day = 29; hour = 23; minute = 59; second = 59 }
unfolding date walk year_days month_days is_leap
leap-day = refl

-- 2100 has no 29 February
pub no-leap-day : date 4107542400 ≡ record { year = 2100; month = 3; day = 1; hour = 0; minute = 0; second = 0 }
unfolding date walk year_days month_days is_leap
no-leap-day = refl

pub last : date 4294967295 ≡ record { year = 2106; month = 2; day = 7; hour = 6; minute = 28; second = 15 }
unfolding date walk year_days month_days is_leap
last = refl
