-- Verdicts in lent places: 0 is unknown, so that places which nothing was written to never say that two rooms agree.
use Rattle.std.specs.Prelude.{ℕ, cond, List, eqb, leb, ℤ, length, Ok, Err}
use Rattle.paper.specs.Numbers as no
use Rattle.paper.specs.Answers.{missing}
use Rattle.rooms.specs.Compared.{Whole}
use Rattle.rooms.specs.declared.Verdict.{Verdict}
use Rattle.rooms.specs.declared.Verdict.TheVariants.{Agree, Differ, Unknown}
use Rattle.rooms.specs.declared.Verdicts.{Verdicts}
use Rattle.rooms.specs.declared.Tolerances.{Tolerances}
use Rattle.onegrish_rooms.specs.Points.{front}

abbrev pub unknown : ℕ
unknown = 0

abbrev pub agree : ℕ
agree = 1

abbrev pub differ : ℕ
differ = 2

abbrev pub verdict_number : Verdict → ℕ
verdict_number Unknown = unknown
verdict_number Agree = agree
verdict_number Differ = differ

-- a channel as it is handed to C: a value stands beside 0 alone
abbrev pub channel_of : ℕ → ℤ → Whole
channel_of number value = cond (eqb number no.done) (Ok value) (Err (missing number))

abbrev pub tolerances_of : ℕ → ℕ → ℕ → Tolerances
tolerances_of t p h = record { temperature = t; pressure = p; humidity = h }

abbrev pub with_verdicts : Verdicts → List ℕ → List ℕ
with_verdicts v lent = front (verdict_number v.temperature) (verdict_number v.pressure) (verdict_number v.humidity) lent

-- 9 for fewer than three places
abbrev pub verdicts_into : Verdicts → List ℕ → ℕ × List ℕ
verdicts_into verdicts lent = cond (leb 3 (length lent)) (no.done, with_verdicts verdicts lent) (no.buffer_too_short, lent)
