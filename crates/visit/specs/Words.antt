-- A list of steps as flat numbers, eight words a step: what it is, the time, and of each channel its number and its value.
-- The number is 0 for a value, and else that of a missing answer, beside which no value is looked at.
use Rattle.std.specs.Prelude.{ℕ, zero, suc, ◌/◌, cond, List, [], ◌∷◌, ◌++◌, eqb, length, get_or, drop, Ok, Err}
use Rattle.visit.specs.Steps.{Answer, value, missing, Step, opened, slot, slotted, closed, stray}

abbrev pub words_each : ℕ
words_each = 8

-- ---- a step's words

abbrev pub number_word : Answer → ℕ
number_word (Ok v) = 0
number_word (Err a) = a.number

abbrev pub value_word : Answer → ℕ
value_word (Ok v) = v
value_word (Err a) = 0

abbrev pub mark_only : ℕ → List ℕ
mark_only mark = mark ∷ 0 ∷ 0 ∷ 0 ∷ 0 ∷ 0 ∷ 0 ∷ 0 ∷ []

unfoldable pub words : Step → List ℕ
words opened = mark_only 1
words (slotted s) =
    2 ∷ s.time ∷ number_word s.temperature ∷ value_word s.temperature
    ∷ number_word s.pressure ∷ value_word s.pressure
    ∷ number_word s.humidity ∷ value_word s.humidity ∷ []
words closed = mark_only 3
words stray = mark_only 0

unfoldable pub words_of : List Step → List ℕ
words_of [] = []
words_of (step ∷ steps) = words step ++ words_of steps

-- ---- and back: any other mark is a stray step

abbrev pub answer_from : ℕ → ℕ → Answer
answer_from number v = cond (eqb number 0) (value v) (missing number)

abbrev pub slot_from : List ℕ → Step
slot_from w =
    slot (get_or w 1 0) (answer_from (get_or w 2 0) (get_or w 3 0)) (answer_from (get_or w 4 0) (get_or w 5 0)) (answer_from (get_or w 6 0) (get_or w 7 0))

unfoldable pub step_from : List ℕ → Step
step_from w =
    cond (eqb (get_or w 0 0) 1) opened (cond (eqb (get_or w 0 0) 2) (slot_from w) (cond (eqb (get_or w 0 0) 3) closed stray))

-- so many steps of a list, eight words each
unfoldable pub steps_first : ℕ → List ℕ → List Step
steps_first zero w = []
steps_first (suc n) w = step_from w ∷ steps_first n (drop words_each w)

-- the steps of a list; words past the last whole step are none
abbrev pub from_words : List ℕ → List Step
from_words w = steps_first (length w / words_each) w
