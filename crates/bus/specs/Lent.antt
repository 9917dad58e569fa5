-- A number by checks in order, and what is handed back by a number: nothing but 0 writes to a lent buffer, and bytes past the output stay.
use Rattle.std.specs.Prelude.{ℕ, eqb, length, drop, Bool, cond, List, [], ◌∷◌, ◌++◌, Result, Ok, Err}
use Rattle.paper.specs.Numbers as no
use Rattle.paper.specs.declared.Refusal.{Refusal}
use Rattle.paper.specs.Answers.{Answer, given, refused, refusal}

-- the number where the test fails, and what the next checks say where it holds
abbrev pub check : Bool → ℕ → ℕ → ℕ
check test number next = cond test next number

-- no answer by a number other than 0, which the refusal names
abbrev pub checked : ℕ → Result Unit Refusal
checked number = cond (eqb number no.done) (Ok tt) (Err (refusal number))

-- bytes at the front of a lent buffer, and what was there past them
abbrev pub laid_over : List ℕ → List ℕ → List ℕ
laid_over bytes lent = bytes ++ drop (length bytes) lent

-- the answer, and what the lent buffer holds then; how many bytes were written is the last value
unfoldable pub handed : ℕ → List ℕ → List ℕ → List ℕ → Answer × List ℕ
handed number values bytes lent =
    cond (eqb number no.done) (given (values ++ length bytes ∷ []), laid_over bytes lent) (refused number, lent)
