-- Two answers that a promise allows are equal: a refusal's number is not 0, and so the paper's number and values leave only one case of the result.
use mathlib.Core.Path.{◌≡◌}
use Rattle.std.specs.Prelude.{ℕ, Result}
use Rattle.visit.specs.declared.RecordError.{RecordError}
use Rattle.visit.specs.Answers.{Tells}
use Rattle.visit.proofs.OneAnswer.{one-answer}
use Rattle.visit_read.specs.Answers.{read_answer}

pub one-read : (a b : Result ℕ RecordError) → Tells a → Tells b → read_answer a ≡ read_answer b → a ≡ b
one-read a b g h e = one-answer a b g h e
