-- The steps of a list as words, with single spaces between them.
use Rattle.std.specs.Prelude.{ℕ, zero, suc, ◌+◌, cond, List, [], ◌++◌, eqb}
use Rattle.visit_step.specs.Places.{step_at}
use Rattle.bench_page.specs.Page.{letters}
use Rattle.bench_step.specs.Showing.{step}

-- before every step but the first
abbrev pub gap : ℕ → List ℕ
gap k = cond (eqb k 0) [] (letters " ")

abbrev pub one : ℕ → List ℕ → List ℕ
one k list = gap k ++ step (step_at list k)

-- so many steps, from the k-th on
unfoldable pub steps : ℕ → ℕ → List ℕ → List ℕ
steps zero k list = []
steps (suc more) k list = one k list ++ steps more (k + 1) list
