-- A step's words say that step again, and so do those of all steps of a visit: for every step whose missing answers have a number other than 0.
use Rattle.std.specs.Prelude.{ℕ, ◌<◌, List, [], ◌∷◌, ◌++◌, ◌≡◌, length, Ok, Err}
use Rattle.visit.specs.Steps.{Answer, Step, opened, slotted, closed, stray}
use Rattle.visit.specs.Words.{words_each, words, words_of, step_from, from_words}

abbrev pub Numbered : Answer → Type 0
Numbered (Ok v) = Unit
Numbered (Err a) = 0 < a.number

abbrev pub AllNumbered : Step → Type 0
AllNumbered opened = Unit
AllNumbered (slotted s) = Numbered s.temperature × (Numbered s.pressure × Numbered s.humidity)
AllNumbered closed = Unit
AllNumbered stray = Unit

abbrev pub EachNumbered : List Step → Type 0
EachNumbered [] = Unit
EachNumbered (step ∷ steps) = AllNumbered step × EachNumbered steps

-- what stands past the words is not looked at
pub record KeepsSteps : Type 0 where
  pub one : (step : Step) (rest : List ℕ) → AllNumbered step → step_from (words step ++ rest) ≡ step
  pub all : (steps : List Step) (rest : List ℕ) → EachNumbered steps → length rest < words_each → from_words (words_of steps ++ rest) ≡ steps
