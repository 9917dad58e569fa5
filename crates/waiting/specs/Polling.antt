-- Polling: status bytes in order, until one is ready or the bytes or the allowance run out.
use Rattle.std.specs.Prelude.{ℕ, suc, ◌+◌, ◌%◌, ◌/◌, min, eqb, ltb, length, take, Bool, cond, ◌&&◌, List, [], ◌∷◌, Result, Ok, Err}
use Rattle.paper.specs.Numbers as no
use Rattle.paper.specs.Answers.{Answer, given}
use Rattle.waiting.specs.declared.Ready.{Ready}
use Rattle.waiting.specs.declared.NeverReady.{NeverReady}

-- bits 3 and 0 both clear, whatever the others say
abbrev pub is_ready : ℕ → Bool
is_ready status = eqb (status / 8 % 2) 0 && eqb (status % 2) 0

-- the place of the first ready byte; their number where none is
unfoldable pub first_ready : List ℕ → ℕ
first_ready [] = 0
first_ready (b ∷ rest) = cond (is_ready b) 0 (suc (first_ready rest))

-- the smaller of the two limits
abbrev pub limit : List ℕ → ℕ → ℕ
limit status allowance = min (length status) allowance

abbrev pub place : List ℕ → ℕ → ℕ
place status allowance = first_ready (take (limit status allowance) status)

-- never ready within the polls allowed, with the polls made
abbrev pub never : ℕ → Answer
never polls = record { number = no.never_ready; values = polls ∷ [] }

-- the place and the polls made, which is place plus one; otherwise 17 with the polls made
unfoldable pub polled : List ℕ → ℕ → Answer
polled status allowance =
    cond (ltb (place status allowance) (limit status allowance))
    (given (place status allowance ∷ (place status allowance + 1) ∷ []))
    (never (limit status allowance))

-- the paper's number and values for each case
abbrev pub poll_answer : Result Ready NeverReady → Answer
poll_answer (Ok ready) = given (ready.place ∷ ready.polls ∷ [])
poll_answer (Err unready) = never unready.polls
