-- The calendar: years from 1970 on and the months of a year are counted off one by one, as long as the days last.
use Rattle.std.specs.Prelude.{ℕ, zero, suc, ◌+◌, ◌-◌, ◌/◌, ◌%◌, ◌^◌, ◌<◌, ◌≡◌, Bool, true, false, cond, eqb, ltb}
use Rattle.visit_date.specs.declared.Moment.{Moment}
use Rattle.visit_date.specs.declared.Walked.{Walked}

-- every fourth year has a 29 February, but of the hundreds only every fourth
unfoldable pub is_leap : ℕ → Bool
is_leap year = cond (eqb (year % 4) 0) (cond (eqb (year % 100) 0) (eqb (year % 400) 0) true) false

unfoldable pub year_days : ℕ → ℕ
year_days year = cond (is_leap year) 366 365

-- 31 and 30 by turns, and by turns again from August on
unfoldable pub month_days : ℕ → ℕ → ℕ
month_days year month =
    cond (eqb month 2) (cond (is_leap year) 29 28) (30 + (month % 16 + month % 16 / 8) % 2)

-- from a number on, at most so many steps: past each whole year or month that the days last for
unfoldable pub walk : (ℕ → ℕ) → ℕ → ℕ → ℕ → Walked
walk days zero n left = record { number = n; left = left }
walk days (suc more) n left =
    cond (ltb left (days n)) (record { number = n; left = left }) (walk days more (n + 1) (left - days n))

-- what the calls of a closure give is a function of the number: how many days a year or a month has
abbrev pub Counts : (ℕ → ℕ → Type 0) → (ℕ → ℕ) → Type 0
Counts gives days = (n size : ℕ) → n < 2 ^ 64 → gives n size → size ≡ days n

-- 136 years after 1970 is 2106, the last year that 32 bits of seconds reach
abbrev pub year_of : ℕ → Walked
year_of days = walk year_days 136 1970 days

abbrev pub month_of : Walked → Walked
month_of year = walk (month_days year.number) 11 1 year.left

-- fewer than 100 days are left of a month, so that the remainder takes nothing away
abbrev pub date_of : Walked → Walked → ℕ → Moment
date_of year month time =
    record {
      year = year.number;
      month = month.number;
      day = month.left % 100 + 1;
      hour = time / 3600;
      minute = time / 60 % 60;
      second = time % 60;
    }

unfoldable pub date : ℕ → Moment
date seconds = date_of (year_of (seconds / 86400)) (month_of (year_of (seconds / 86400))) (seconds % 86400)
