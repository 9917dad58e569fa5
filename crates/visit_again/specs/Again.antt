-- A time, a temperature and a missing answer, read from what is shown of them without the remark: the same again.
use Rattle.std.specs.Prelude.{ℕ, ◌≤◌, ◌++◌, ◌≡◌, Ok}
use Rattle.bench_page.specs.Page.{letters}
use Rattle.bench_page.specs.Digits as spelt
use Rattle.visit.specs.Steps.{value, missing as absent}
use Rattle.visit_figures.specs.Figures as figures
use Rattle.visit_typed.specs.Typed as typed

pub record ReadAgain : Type 0 where
  pub time : (seconds : ℕ) → seconds ≤ 0xFFFFFFFF → typed.time (spelt.decimal seconds) ≡ Ok (value seconds)
  pub temperature : (word : ℕ) → word ≤ 0xFFFFFFFF → typed.temperature (figures.temperature word) ≡ Ok (value word)
  pub missing : (number : ℕ) → 10 ≤ number → number ≤ 14 → typed.missing (letters "missing " ++ spelt.decimal number) ≡ Ok (absent number)
