-- The registers of flat pairs by their places: every second byte from the first on.
use mathlib.Core.Path.{◌≡◌, refl, sym, ◌∙◌}
use mathlib.Core.Bool.{Bool, true, false}
use mathlib.Core.List.{List, [], ◌∷◌}
use Prim.Native.Nat.{ℕ, zero, suc, ◌*◌, ◌<◌}
use native.Mathlib.Omega.{arith}
use lib.ListN.{length, get_or}
use Rattle.laws.specs.Tests.{both, never}
use Rattle.bus.specs.Pairs.{every}

abbrev Passes : (ℕ → Bool) → List ℕ → Bool → ℕ → Type 0
Passes test s answer k = test (get_or s (k * 2) 0) ≡ answer

there : (register value : ℕ) (s : List ℕ) (k : ℕ) → get_or (register ∷ value ∷ s) (suc k * 2) 0 ≡ get_or s (k * 2) 0
there register value s k = let e : suc k * 2 ≡ suc (suc (k * 2)) = omega arith in rw e

all_pass : (test : ℕ → Bool) (s : List ℕ) → ((k : ℕ) → k * 2 < length s → Passes test s true k) → true ≡ every test s
unfolding every
all_pass test [] h = refl
all_pass test (register ∷ []) h = rw (h 0 (omega arith))
all_pass test (register ∷ value ∷ s) h = rw (h 0 (omega arith)) (all_pass test s (λ k b. rw (there register value s k) at (h (suc k) (omega arith))))

none_fails : (test : ℕ → Bool) (s : List ℕ) → true ≡ every test s → (k : ℕ) → k * 2 < length s → Passes test s true k
unfolding every
none_fails test [] e k h = absurd (omega arith)
none_fails test (register ∷ []) e zero h = sym e
none_fails test (register ∷ []) e (suc k) h = absurd (omega arith)
none_fails test (register ∷ value ∷ s) e zero h = (both (test register) (every test s) (sym e)).0
none_fails test (register ∷ value ∷ s) e (suc k) h =
    rw (there register value s k) (none_fails test s (sym (both (test register) (every test s) (sym e)).1) k (omega arith))

module _ (test : ℕ → Bool) (s : List ℕ) where
  pub every-decides :
      (r : Bool) → (r ≡ true → (k : ℕ) → k * 2 < length s → Passes test s true k) →
      (r ≡ false → (k : ℕ) × (k * 2 < length s) × Passes test s false k) → r ≡ every test s
  every-decides true = λ yes other. all_pass test s (yes refl)
  every-decides false = λ yes other. fails (other refl) (every test s) refl
    where
      fails : (k : ℕ) × (k * 2 < length s) × Passes test s false k → (b : Bool) → b ≡ every test s → false ≡ b
      fails (k, h, f) true e = absurd (never (sym f ∙ none_fails test s e k h))
      fails o false e = refl
