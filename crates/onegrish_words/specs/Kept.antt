-- A reading with the words that a caller kept. Lengths are checked first (2), then the words and the codes (7).
use Rattle.std.specs.Prelude.{ℕ, cond, List, eqb, length, ℤ, Err}
use Rattle.paper.specs.Numbers as no
use Rattle.paper.specs.Registers as reg
use Rattle.paper.specs.Answers.{refusal}
use Rattle.compensation.specs.Compensation.{Answer, compensated_with}
use Rattle.onegrish_kept.specs.Words.{taken}

unfoldable pub compensated_kept : List ℤ → List ℕ → ℕ → ℕ → ℕ → Answer
compensated_kept words bytes t p h =
    cond (eqb (length bytes) reg.data_length) (compensated_with (taken words) bytes t p h) (Err (refusal no.wrong_length))
