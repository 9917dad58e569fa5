-- What a formula needs: its steps' true results, which have to fit the width, and its tests, one after the other in the order of evaluation.
-- A table of needs is written with `step` and `check`; the first need that is not met decides.
use Rattle.std.specs.Prelude.{ℕ, ◌^◌, Bool, true, cond, ◌&&◌, List, [], ◌∷◌, ℤ, pos, ◌*ℤ◌, Ok, Err}
use Rattle.std.specs.Int.Signed.{quot_z, shr_z}
use Rattle.paper.specs.Numbers as no
use Rattle.paper.specs.Answers.{missing}
use Rattle.steps.specs.declared.Signed.{Signed}
use Rattle.steps.specs.Step.{Num, fits}

-- ---- over whole numbers, with C's precedence: a right shift rounds down, a left shift multiplies, a quotient rounds toward zero

infixl 5 ◌>>ℤ◌ ◌<<ℤ◌
infixl 7 ◌/ℤ◌
abbrev pub ◌>>ℤ◌ : ℤ → ℕ → ℤ
x >>ℤ k = shr_z x (2 ^ k)

abbrev pub ◌<<ℤ◌ : ℤ → ℕ → ℤ
x <<ℤ k = x *ℤ pos (2 ^ k)

abbrev pub ◌/ℤ◌ : ℤ → ℤ → ℤ
x /ℤ y = quot_z x y

-- ---- a table of needs

-- a step's true result, which has to fit the width, or a test's outcome with its number
pub data Need : Type 0 where
  fit : ℤ → Need
  hold : Bool → ℕ → Need

-- a step with its true result, which the later lines may name
abbrev pub step : ℤ → (ℤ → List Need) → List Need
step z later = fit z ∷ later z

-- a test that has to hold, and its number where it does not
abbrev pub check : Bool → ℕ → (Bool → List Need) → List Need
check b number later = hold b number ∷ later b

-- ---- which decides

abbrev pub met : Signed → Need → Bool
met w (fit z) = fits w z
met w (hold b n) = b

unfoldable pub all_met : Signed → List Need → Bool
all_met w [] = true
all_met w (d ∷ ds) = met w d && all_met w ds

-- the number that a need gives where it is not met
abbrev pub number : Need → ℕ
number (fit z) = no.left_its_type
number (hold b n) = n

-- the value, or the number of the first need that is not met
unfoldable pub verdict : Signed → List Need → ℤ → Num
verdict w [] z = Ok z
verdict w (d ∷ ds) z = cond (met w d) (verdict w ds z) (Err (missing (number d)))
