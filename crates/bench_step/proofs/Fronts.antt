-- The part of a text before its first mark is a front of it, and what stands after the mark is the rest.
use Prim.Native.Nat.{ℕ, zero, suc, ◌+◌, ◌≤◌, ◌<◌}
use native.Mathlib.Omega.{arith}
use native.Mathlib.Numerals.{add-one}
use mathlib.Core.Bool.{Bool, true, false, cond}
use mathlib.Core.List.{List, [], ◌∷◌}
use mathlib.Core.Path.{◌≡◌, refl, sym, ap, ◌∙◌}
use borrow.Author.Tests.{eq-eqb, ne_eqb}
use lib.Dec.{eqb}
use lib.ListN.{length, get_or, take, drop, drop_of_length-le}
use Rattle.std.specs.Prelude.{◌≢◌}
use Rattle.laws.specs.Choices.{pick}
use Rattle.bench_step.specs.Reading.{before, after}

pub taken : (mark : ℕ) (s : List ℕ) → take (length (before mark s)) s ≡ before mark s
unfolding before
taken mark [] = refl
taken mark (byte ∷ s) =
    pick (λ (r : List ℕ). take (length r) (byte ∷ s) ≡ r) (eqb byte mark) (λ e. refl) (λ e. ap (λ (r : List ℕ). byte ∷ r) (taken mark s))

pub within : (mark : ℕ) (s : List ℕ) → length (before mark s) ≤ length s
unfolding before
within mark [] = omega arith
within mark (byte ∷ s) =
    pick (λ (r : List ℕ). length r ≤ length (byte ∷ s)) (eqb byte mark) (λ e. omega arith) (λ e. omega (arith, within mark s))

by-test : (P : Bool → Type 0) → P true → P false → (t : Bool) → P t
by-test P p q true = p
by-test P p q false = q

-- by whether the first character is the mark
Past : ℕ → ℕ → List ℕ → Bool → Type 0
Past mark byte s t = drop (suc (length (cond t [] (byte ∷ before mark s)))) (byte ∷ s) ≡ cond t s (after mark s)

past : (mark : ℕ) (s : List ℕ) → drop (suc (length (before mark s))) s ≡ after mark s
unfolding before after Past
past mark [] = refl
past mark (byte ∷ s) = by-test (Past mark byte s) refl (past mark s) (eqb byte mark)

module _ (mark end : ℕ) (s : List ℕ) (e : end ≡ length (before mark s)) where
  pub after-mark : drop (end + 1) s ≡ after mark s
  after-mark = rw (add-one, e) (past mark s)

  pub no-mark : length s ≤ end → drop end s ≡ after mark s
  no-mark h =
      let m : length s ≤ end + 1 = omega arith in
      drop_of_length-le s h ∙ sym (drop_of_length-le s m) ∙ after-mark

-- ---- the place that was found

pub place-is : (mark : ℕ) (s : List ℕ) (end : ℕ) → end ≤ length s → ((k : ℕ) → k < end → get_or s k 0 ≢ mark) → (end < length s → get_or s end 0 ≡ mark)
    → end ≡ length (before mark s)
unfolding before
place-is mark [] zero h none found = refl
place-is mark [] (suc end) h none found = absurd (omega arith)
place-is mark (byte ∷ s) zero h none found = rw (eq-eqb byte mark (found (omega arith)))
place-is mark (byte ∷ s) (suc end) h none found =
    rw (ne_eqb byte mark (none 0 (omega arith)))
    (ap suc (place-is mark s end (omega arith) (λ k l. none (suc k) (omega arith)) (λ l. found (omega arith))))
