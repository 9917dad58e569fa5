-- What a day answers, place by place: statements over any call, which owe nothing to how it is worked out (proofs/EachPlace.antt, proofs/Joined.antt).
use Rattle.std.specs.Prelude.{ℕ, ◌*◌, ◌<◌, ◌≡◌, List, ◌++◌, ℤ, length, get_or, take, drop}
use Rattle.paper.specs.Numbers as no
use Rattle.paper.specs.Registers as reg
use Rattle.compensation.specs.Compensation.{Answer, compensated}
use Rattle.day_row.specs.Row.{numbers_of, answer_of}

-- a call with two blocks, readings and lent answers: its number, and the answers afterwards
abbrev pub Call : Type 0
Call = List ℕ → List ℕ → List ℕ → List ℤ → ℕ × List ℤ

-- blocks of 26 and 7 bytes, so many readings of eleven bytes, and as many rows of eight numbers
pub record Fits (one two readings : List ℕ) (answers : List ℤ) (n : ℕ) : Type 0 where
  pub first : length one ≡ reg.block_one
  pub second : length two ≡ reg.block_two
  pub bytes : length readings ≡ n * 11
  pub numbers : length answers ≡ n * 8

-- the eleven bytes at place k, and the eight numbers
abbrev pub reading_at : List ℕ → ℕ → List ℕ
reading_at readings k = take 11 (drop (k * 11) readings)

abbrev pub row_at : List ℤ → ℕ → List ℤ
row_at answers k = take 8 (drop (k * 8) answers)

-- the single call's answer for eleven bytes
abbrev pub single : List ℕ → List ℕ → List ℕ → Answer
single one two reading = compensated one two (take reg.data_length reading) (get_or reading 8 0) (get_or reading 9 0) (get_or reading 10 0)

pub record Day (call : Call) : Type 0 where
  -- what fits is done; each place has the row of the single call's answer for the reading there, and the row says that answer again
  pub done : {one two readings : List ℕ} {answers : List ℤ} {n : ℕ} → Fits one two readings answers n → (call one two readings answers).0 ≡ no.done
  pub row : {one two readings : List ℕ} {answers : List ℤ} {n : ℕ} → Fits one two readings answers n → (k : ℕ) → k < n →
      row_at (call one two readings answers).1 k ≡ numbers_of (single one two (reading_at readings k))
  pub answer : {one two readings : List ℕ} {answers : List ℤ} {n : ℕ} → Fits one two readings answers n → (k : ℕ) → k < n →
      answer_of (row_at (call one two readings answers).1 k) ≡ single one two (reading_at readings k)
  -- what does not fit is refused with 2, and nothing is written
  pub refused : (one two readings : List ℕ) (answers : List ℤ) → ((n : ℕ) → Fits one two readings answers n → ⊥) →
      call one two readings answers ≡ (no.wrong_length, answers)
  -- the list is as long as before
  pub same_length : (one two readings : List ℕ) (answers : List ℤ) → length (call one two readings answers).1 ≡ length answers

-- any two days are one
abbrev pub OneDay : Type 0
OneDay = (f g : Call) → Day f → Day g → (one two readings : List ℕ) (answers : List ℤ) → f one two readings answers ≡ g one two readings answers

-- the day of two lists joined is the two days joined
abbrev pub Joins : Call → Type 0
Joins call =
    (one two r s : List ℕ) (a b : List ℤ) (n m : ℕ) → Fits one two r a n → Fits one two s b m →
    call one two (r ++ s) (a ++ b) ≡ (no.done, (call one two r a).1 ++ (call one two s b).1)

-- a place's answer depends on that place's reading alone, whatever stands at other places and however many there are
abbrev pub Alone : Call → Type 0
Alone call =
    (one two r s : List ℕ) (a b : List ℤ) (n m j k : ℕ) → Fits one two r a n → Fits one two s b m → j < n → k < m →
    reading_at r j ≡ reading_at s k →
    row_at (call one two r a).1 j ≡ row_at (call one two s b).1 k
