-- The word that a text begins with: what stands before its first space.
use Rattle.std.specs.Prelude.{ℕ, Bool, true, false, cond, List, [], ◌∷◌, eqb}

abbrev pub is_space : ℕ → Bool
is_space byte = eqb byte 32

unfoldable pub word : List ℕ → List ℕ
word [] = []
word (byte ∷ rest) = cond (is_space byte) [] (byte ∷ word rest)

abbrev pub is_none : List ℕ → Bool
is_none [] = true
is_none (byte ∷ rest) = false
