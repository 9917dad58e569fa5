-- A form with its numbers, as text.
use Rattle.std.specs.Prelude.{ℕ, ◌+◌, ◌%◌, cond, List, [], ◌∷◌, ◌++◌, eqb, ℤ, pos, get_or}
use Rattle.bench_page.specs.Page.{letters}
use Rattle.bench_page.specs.Digits as spelt

-- '#' marks a number in decimal, and '@' a byte as two hex digits; any other byte stands for itself
abbrev pub place : ℕ → ℕ → List ℕ
place b n = cond (eqb b 35) (spelt.decimal n) (cond (eqb b 64) (spelt.pair (n % 256)) (b ∷ []))

-- '#' marks a signed number
abbrev pub signed_place : ℕ → ℤ → List ℕ
signed_place b z = cond (eqb b 35) (spelt.signed z) (b ∷ [])

-- each mark has a number of its own
abbrev pub after : ℕ → ℕ → ℕ
after b k = cond (eqb b 35) (k + 1) (cond (eqb b 64) (k + 1) k)

-- what is left of a form, from the number that its next mark shows on
unfoldable pub filled_from : {A : Type 0} → (ℕ → A → List ℕ) → A → List ℕ → List A → ℕ → List ℕ
filled_from shown none [] numbers k = []
filled_from shown none (b ∷ rest) numbers k =
    shown b (get_or numbers k none) ++ filled_from shown none rest numbers (after b k)

abbrev pub filled : List ℕ → List ℕ → List ℕ
filled form numbers = filled_from place 0 form numbers 0

abbrev pub filled_signed : List ℕ → List ℤ → List ℕ
filled_signed form numbers = filled_from signed_place (pos 0) form numbers 0

-- a lent buffer after a row
unfoldable pub buffer : List ℕ → List ℕ
buffer lent = letters " buf=" ++ spelt.shown lent
