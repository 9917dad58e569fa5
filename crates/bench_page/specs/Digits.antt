-- Numbers as text: decimal, signed decimal, and bytes as hex pairs in upper case.
use Rattle.std.specs.Prelude.{ℕ, zero, suc, ◌+◌, ◌/◌, ◌%◌, cond, List, [], ◌∷◌, ◌++◌, eqb, ltb, length, ℤ, pos, negsuc, nat_abs}
use Rattle.bench_page.specs.Page.{letters}

abbrev pub last_digit : ℕ → ℕ
last_digit n = 48 + n % 10

-- the last digit, and before it as many of so many more as the number has
unfoldable pub spelled : ℕ → ℕ → List ℕ
spelled zero n = last_digit n ∷ []
spelled (suc more) n = cond (ltb n 10) (last_digit n ∷ []) (spelled more (n / 10) ++ last_digit n ∷ [])

-- twenty digits hold every number of 64 bits
unfoldable pub decimal : ℕ → List ℕ
decimal n = spelled 19 n

-- a minus where it is negative, and how far from zero it lies
abbrev pub sign : ℤ → List ℕ
sign (pos n) = []
sign (negsuc n) = letters "-"

unfoldable pub signed : ℤ → List ℕ
signed z = sign z ++ decimal (nat_abs z)

unfoldable pub hex_digit : ℕ → ℕ
hex_digit n = cond (ltb n 10) (48 + n) (55 + n)

unfoldable pub pair : ℕ → List ℕ
pair byte = hex_digit (byte / 16) ∷ hex_digit (byte % 16) ∷ []

-- pairs run together
unfoldable pub pairs : List ℕ → List ℕ
pairs [] = []
pairs (byte ∷ rest) = pair byte ++ pairs rest

-- and a dash for none
unfoldable pub shown : List ℕ → List ℕ
shown bytes = cond (eqb (length bytes) 0) (letters "-") (pairs bytes)
