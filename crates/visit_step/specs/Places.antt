-- A step read at a place of a lent list, and laid down there.
use Rattle.std.specs.Prelude.{ℕ, ◌+◌, ◌*◌, ◌/◌, cond, List, ◌++◌, ltb, length, take, drop}
use Rattle.visit.specs.declared.Step.{Step}
use Rattle.visit.specs.declared.Step.TheVariants.{Stray}
use Rattle.visit.specs.Words.{words_each, words, step_from}

-- past the last whole step there is none
unfoldable pub step_at : List ℕ → ℕ → Step
step_at list k = cond (ltb k (length list / words_each)) (step_from (drop (k * words_each) list)) Stray

-- eight words in the place of eight, from an index on
unfoldable pub over : List ℕ → ℕ → List ℕ → List ℕ
over w at list = take at list ++ (w ++ drop (at + words_each) list)

-- where there is no room, the list stays as it was
unfoldable pub laid : Step → ℕ → List ℕ → List ℕ
laid step k list = cond (ltb k (length list / words_each)) (over (words step) (k * words_each) list) list
