-- Numbers in lent places: the paper's number, and what the places hold then. A refusal leaves each as it was.
use Rattle.std.specs.Prelude.{ℕ, cond, List, [], ◌∷◌, eqb, Result, Ok, Err}
use Rattle.paper.specs.Numbers as no
use Rattle.paper.specs.declared.Refusal.{Refusal}
use Rattle.paper.specs.Answers.{Answer}

-- ---- a value of any type, and where there is none, what stood there

abbrev pub value_into : {T : Type 0} → Result T Refusal → T → ℕ × T
value_into (Ok value) old = (no.done, value)
value_into (Err why) old = (why.number, old)

-- ---- numbers: the first or last of an answer's values, and where it has none, what stood there

abbrev pub first_or : ℕ → List ℕ → ℕ
first_or old [] = old
first_or old (x ∷ xs) = x

abbrev pub last_or : ℕ → List ℕ → ℕ
last_or old [] = old
last_or old (x ∷ xs) = last_or x xs

abbrev pub number_into : Answer → ℕ → ℕ × ℕ
number_into a old = (a.number, first_or old a.values)

-- 17 comes with the polls made, and no place
abbrev pub place_into : Answer → ℕ → ℕ × ℕ
place_into a old = (a.number, cond (eqb a.number no.done) (first_or old a.values) old)

abbrev pub polls_of : Answer → ℕ
polls_of a = last_or 0 a.values

-- ---- bus bytes: the length is the last value, and the device's address on I2C the one before it

abbrev pub before_last_or : ℕ → List ℕ → ℕ
before_last_or old [] = old
before_last_or old (x ∷ []) = old
before_last_or old (x ∷ y ∷ ys) = x

abbrev pub length_into : Answer → ℕ → ℕ × ℕ
length_into a old = (a.number, last_or old a.values)

abbrev pub device_into : Answer → ℕ → ℕ → ℕ × ℕ × ℕ
device_into a address old = (a.number, before_last_or address a.values, last_or old a.values)
