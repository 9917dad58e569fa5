-- Where the plain roads are taken, what they give is the reading's answer: a statement (proofs/Taken.antt).
use Rattle.std.specs.Prelude.{ℕ, ◌≡◌, List, Some}
use Rattle.calibration.specs.declared.Words.{Words}
use Rattle.compensation.specs.Compensation.{compensated_words}
use Rattle.plain_reading.specs.declared.PlainReading.{PlainReading}
use Rattle.plain_reading.specs.Plain.{read_plainly, answer_of}

abbrev pub IsTheAnswer : Type 0
IsTheAnswer =
    (words : Words) (bytes : List ℕ) (t p h : ℕ) (r : PlainReading) → read_plainly words bytes t p h ≡ Some r →
    answer_of r ≡ compensated_words words bytes t p h
