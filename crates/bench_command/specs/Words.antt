-- The words of a line.
use Rattle.std.specs.Prelude.{ℕ, suc, ◌+◌, Bool, cond, List, [], ◌∷◌, eqb, ltb, length}

abbrev pub is_space : ℕ → Bool
is_space byte = eqb byte 32

-- one more than spaces: two spaces in a row, or one at either end, make a word of no characters
unfoldable pub count : List ℕ → ℕ
count [] = 1
count (byte ∷ rest) = cond (is_space byte) (suc (count rest)) (count rest)

-- the place after one, and past the end the same
abbrev pub past : List ℕ → ℕ → ℕ
past text at = cond (ltb at (length text)) (at + 1) at
