-- What the writer answers, in the paper's terms, and what its checks find.
use Rattle.std.specs.Prelude.{ℕ, Result, Ok, Err}
use Rattle.paper.specs.Answers.{Answer}
use Rattle.visit.specs.declared.Fault.{Fault}
use Rattle.visit.specs.declared.RecordError.{RecordError}
use Rattle.visit.specs.Answers.{record_answer}
use Rattle.visit.specs.Writer.{Checked, fine, wrong}

-- the paper's number, with the bytes written or the place of the fault
abbrev pub written_answer : Result ℕ RecordError → Answer
written_answer result = record_answer result

abbrev pub found : Result Unit Fault → Checked
found (Ok done) = fine
found (Err f) = wrong f.number f.place
