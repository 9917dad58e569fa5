-- A list with another laid into it, place by place. Assumes nothing.
use Prim.Native.Nat.{ℕ, zero, suc, ◌+◌, ◌≤◌, ◌<◌}
use mathlib.Core.Path.{◌≡◌, refl, ap, ◌∙◌}
use mathlib.Core.List.{List, [], ◌∷◌}
use native.Mathlib.Omega.{arith}
use lib.ListN.{length, get_or, set, take, length-set}
use lib.Seq.{get_or-set_same, get_or-set_other}
use Rattle.onegrish_laid.specs.Written.{laid}

module _ {A : Type 0} (d : A) where
  pub length-laid : (i : ℕ) (xs lent : List A) → length (laid i xs lent) ≡ length lent
  length-laid i [] lent = refl
  length-laid i (x ∷ xs) lent = length-laid (i + 1) xs (set lent i x) ∙ length-set lent i x

  -- what stands before the place stays
  pub before-laid : (i : ℕ) (xs lent : List A) (k : ℕ) → k < i → get_or (laid i xs lent) k d ≡ get_or lent k d
  before-laid i [] lent k h = refl
  before-laid i (x ∷ xs) lent k h = before-laid (i + 1) xs (set lent i x) k (omega arith) ∙ get_or-set_other lent i k x d (λ e. omega arith)

  -- and from there on it is the other list
  pub at-laid : (i : ℕ) (xs lent : List A) (k : ℕ) → k < length xs → i + length xs ≤ length lent → get_or (laid i xs lent) (i + k) d ≡ get_or xs k d
  at-laid i [] lent k h l = absurd (omega arith)
  at-laid i (x ∷ xs) lent zero h l =
      ap (λ (n : ℕ). get_or (laid (i + 1) xs (set lent i x)) n d) (omega arith)
      ∙ before-laid (i + 1) xs (set lent i x) i (omega arith)
      ∙ get_or-set_same lent i x d (omega arith)
  at-laid i (x ∷ xs) lent (suc k) h l =
      let e = length-set lent i x in
      ap (λ (n : ℕ). get_or (laid (i + 1) xs (set lent i x)) n d) (omega arith)
      ∙ at-laid (i + 1) xs (set lent i x) k (omega arith) (omega arith)

  -- the front of a list
  pub at_front : (n : ℕ) (l : List A) (k : ℕ) → k < n → get_or (take n l) k d ≡ get_or l k d
  at_front zero l k h = absurd (omega arith)
  at_front (suc n) [] k h = refl
  at_front (suc n) (x ∷ l) zero h = refl
  at_front (suc n) (x ∷ l) (suc k) h = at_front n l k (omega arith)
