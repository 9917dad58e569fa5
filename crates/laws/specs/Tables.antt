-- A table of worked cases: what is defined beside what it must give, all shown at once.
use Rattle.std.specs.Prelude.{ℕ, zero, suc, List, [], ◌∷◌, map, ◌≡◌}

pub record Row (A : Type 0) : Type 0 where
  pub defined : A
  pub expected : A

infix 5 ◌gives◌
abbrev pub ◌gives◌ : {A : Type 0} → A → A → Row A
x gives y = record { defined = x; expected = y }

abbrev pub AllHold : {A : Type 0} → List (Row A) → Type 0
AllHold {A} rows = map (λ (row : Row A). row.defined) rows ≡ map (λ (row : Row A). row.expected) rows

-- two bytes in turn, so many times
abbrev pub in_turn : ℕ → ℕ → ℕ → List ℕ
in_turn zero a b = []
in_turn (suc n) a b = a ∷ b ∷ in_turn n a b
