-- What is answered of a record that is read or written, in the paper's terms.
use Rattle.std.specs.Prelude.{ℕ, ◌<◌, [], ◌∷◌, Result, Ok, Err}
use Rattle.visit.specs.declared.Fault.{Fault}
use Rattle.visit.specs.declared.RecordError.{RecordError}
use Rattle.visit.specs.declared.RecordError.TheVariants.{Whole, At}
use Rattle.visit.specs.Lent.{number_at}
use Rattle.paper.specs.Answers.{Answer, given, refused}

-- a number with the offset of a field or the place of a step
abbrev pub fault : ℕ → ℕ → Fault
fault number place = record { number = number; place = place }

-- the paper's number, and the values that come with it: the steps or bytes, or a fault's offset or place
abbrev pub record_answer : Result ℕ RecordError → Answer
record_answer (Ok count) = given (count ∷ [])
record_answer (Err (Whole r)) = refused r.number
record_answer (Err (At f)) = number_at f.number f.place

-- a refusal's number is not 0
abbrev pub Tells : Result ℕ RecordError → Type 0
Tells (Ok count) = Unit
Tells (Err (Whole r)) = 0 < r.number
Tells (Err (At f)) = 0 < f.number
