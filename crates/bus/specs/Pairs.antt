-- Pairs as flat bytes, register first.
use Rattle.std.specs.Prelude.{ℕ, ◌*◌, ◌%◌, eqb, leb, length, Bool, true, ◌&&◌, List, [], ◌∷◌}
use Rattle.paper.specs.Registers as reg
use Rattle.bus.specs.declared.register.Change.{Change}
use Rattle.bus.specs.RegisterByte.{changed}

abbrev pub is_even : List ℕ → Bool
is_even bytes = eqb (length bytes % 2) 0

-- whole pairs, at least one and at most 16
abbrev pub are_pairs : List ℕ → Bool
are_pairs bytes = is_even bytes && (leb 1 (length bytes) && leb (length bytes) (2 * reg.most_pairs))

-- each register passes the test
unfoldable pub every : (ℕ → Bool) → List ℕ → Bool
every test [] = true
every test (register ∷ []) = test register
every test (register ∷ value ∷ rest) = test register && every test rest

-- the same pairs with each register changed
unfoldable pub with_registers : Change → List ℕ → List ℕ
with_registers change [] = []
with_registers change (register ∷ []) = changed change register ∷ []
with_registers change (register ∷ value ∷ rest) = changed change register ∷ value ∷ with_registers change rest
