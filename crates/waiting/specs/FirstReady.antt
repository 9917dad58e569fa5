-- What polling is to find, said of the bytes themselves: a place is answered exactly where its byte is the first ready one within
-- both limits, and 17 exactly where no byte within them is ready.
use Rattle.std.specs.Prelude.{ℕ, ◌+◌, ◌*◌, ◌≤◌, ◌<◌, min, eqb, length, get_or, Bool, true, false, ◌&&◌, List, [], ◌∷◌, ◌≡◌}
use Rattle.paper.specs.Answers.{Answer, given}
use Rattle.waiting.specs.Polling.{is_ready, never}

-- bits 3 and 0 decide, whatever the others say
abbrev pub ByBits : (ℕ → Bool) → Type 0
ByBits ready =
    (high running middle copying : ℕ) → running < 2 → middle < 4 → copying < 2 →
    ready (high * 16 + running * 8 + middle * 2 + copying) ≡ (eqb running 0 && eqb copying 0)

-- the byte at the place is ready and none before it is; the polls are one more than the place, and within both limits
pub record Found (status : List ℕ) (allowance at polls : ℕ) : Type 0 where
  pub counted : polls ≡ at + 1
  pub there : polls ≤ length status
  pub allowed : polls ≤ allowance
  pub ready : is_ready (get_or status at 0) ≡ true
  pub first : (k : ℕ) → k < at → is_ready (get_or status k 0) ≡ false

-- the polls are the smaller of the two limits, and none of those bytes is ready
pub record NeverReady (status : List ℕ) (allowance polls : ℕ) : Type 0 where
  pub counted : polls ≡ min (length status) allowance
  pub none : (k : ℕ) → k < polls → is_ready (get_or status k 0) ≡ false

-- both answers, each both ways
pub record FindsFirst (polled : List ℕ → ℕ → Answer) : Type 0 where
  pub place_found : (status : List ℕ) (allowance at polls : ℕ) → polled status allowance ≡ given (at ∷ polls ∷ []) → Found status allowance at polls
  pub found-place : (status : List ℕ) (allowance at polls : ℕ) → Found status allowance at polls → polled status allowance ≡ given (at ∷ polls ∷ [])
  pub never-none : (status : List ℕ) (allowance polls : ℕ) → polled status allowance ≡ never polls → NeverReady status allowance polls
  pub none_never : (status : List ℕ) (allowance polls : ℕ) → NeverReady status allowance polls → polled status allowance ≡ never polls
