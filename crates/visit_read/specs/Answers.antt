-- What the reader answers, in the paper's terms.
use Rattle.std.specs.Prelude.{ℕ, Result}
use Rattle.visit.specs.declared.RecordError.{RecordError}
use Rattle.visit.specs.Answers.{record_answer}
use Rattle.paper.specs.Answers.{Answer}

-- the paper's number, with the steps read or the offset of the fault
abbrev pub read_answer : Result ℕ RecordError → Answer
read_answer result = record_answer result
