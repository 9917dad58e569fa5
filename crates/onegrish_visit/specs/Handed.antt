-- A visit handed to C: the paper's number, the place of the count, and the lent list or buffer. Two calls more give what comes with a refusal.
use Rattle.std.specs.Prelude.{ℕ, cond, List, [], ◌∷◌, ◌≡◌, eqb}
use Rattle.paper.specs.Numbers as no
use Rattle.paper.specs.Answers.{Answer}
use Rattle.visit.specs.Lent.{read_into, write_into}

-- what comes with a number: the steps or bytes, or an offset or a step's place; 0 where nothing does
abbrev pub first_of : List ℕ → ℕ
first_of [] = 0
first_of (x ∷ xs) = x

abbrev pub first_value : Answer → ℕ
first_value a = first_of a.values

-- ---- on 0 the count, and on any other number the place stays

abbrev pub count_into : ℕ → ℕ → ℕ → ℕ × ℕ
count_into number value old = (number, cond (eqb number no.done) value old)

abbrev pub counted_into : Answer × List ℕ → ℕ → ℕ × ℕ × List ℕ
counted_into o old = (o.0.number, (count_into o.0.number (first_value o.0) old).1, o.1)

-- ---- what comes with a refusal, and 0 where it is none

abbrev pub beside_refusal : ℕ → ℕ → ℕ
beside_refusal number value = cond (eqb number no.done) 0 value

abbrev pub beside_answer : Answer → ℕ
beside_answer a = beside_refusal a.number (first_value a)

-- with no list or buffer at all; any other gives the same (proofs/Together.antt)
unfoldable pub offset_of : List ℕ → ℕ
offset_of bytes = beside_answer (read_into bytes []).0

unfoldable pub place_of : List ℕ → ℕ
place_of words = beside_answer (write_into words []).0

-- the second call is right about the first, whatever that was lent
pub record GoTogether : Type 0 where
  pub offset : (bytes lent : List ℕ) → beside_answer (read_into bytes lent).0 ≡ offset_of bytes
  pub place : (words lent : List ℕ) → beside_answer (write_into words lent).0 ≡ place_of words
