-- A row says its answer again, and where it has no value a fixed 0 stands: statements (proofs/Kept.antt).
use Rattle.std.specs.Prelude.{ℕ, ◌≡◌, List, ℤ, pos}
use Rattle.std.specs.Prelude.{Err}
use Rattle.paper.specs.Answers.{refusal}
use Rattle.compensation.specs.Compensation.{Answer, compensated}
use Rattle.day_row.specs.Row.{at, numbers_of, answer_of}

-- of every answer that the single call gives
abbrev pub LosesNothing : Type 0
LosesNothing =
    (one two bytes : List ℕ) (t p h : ℕ) →
    answer_of (numbers_of (compensated one two bytes t p h)) ≡ compensated one two bytes t p h

-- in the row of any answer: where a channel's number is not 0, the places of its values hold 0
pub record NoneHoldsZero (row : List ℤ) : Type 0 where
  pub temperature : (at row 1 ≡ pos 0 → ⊥) → at row 2 ≡ pos 0
  pub fine : (at row 1 ≡ pos 0 → ⊥) → at row 3 ≡ pos 0
  pub pressure : (at row 4 ≡ pos 0 → ⊥) → at row 5 ≡ pos 0
  pub humidity : (at row 6 ≡ pos 0 → ⊥) → at row 7 ≡ pos 0

abbrev pub HoldsZero : Type 0
HoldsZero = (a : Answer) → NoneHoldsZero (numbers_of a)

-- a reading that is refused whole has its number in each channel
pub record InEach (row : List ℤ) : Type 0 where
  pub temperature : at row 1 ≡ at row 0
  pub pressure : at row 4 ≡ at row 0
  pub humidity : at row 6 ≡ at row 0

abbrev pub RefusedInEach : Type 0
RefusedInEach = (n : ℕ) → InEach (numbers_of (Err (refusal n)))
