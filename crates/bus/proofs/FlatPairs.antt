-- Flat pairs taken two bytes at a time, over the change of the register byte.
use mathlib.Core.Path.{◌≡◌, refl, ap, sym, ◌∙◌}
use mathlib.Core.Bool.{true}
use mathlib.Core.List.{List, [], ◌∷◌, ◌++◌, append_assoc, append-nil}
use Prim.Native.Nat.{ℕ, suc, ◌+◌, ◌≤◌, ◌<◌, ◌%◌}
use native.Mathlib.Omega.{arith}
use native.Mathlib.Numerals.{add-one}
use lib.ListN.{length, get_or, drop, take, set, length-set, take-append-drop}
use lib.Seq.{drop-cons, drop-length, take-suc-set, drop-set-lt, drop-drop}
use borrow.Author.Tests.{eqb-true}
use Rattle.bus.specs.declared.register.Change.{Change}
use Rattle.bus.specs.RegisterByte.{changed}
use Rattle.bus.specs.Lent.{laid_over}
use Rattle.bus.specs.Pairs.{is_even, with_registers}

drop-pair : (s : List ℕ) (i : ℕ) → i + 1 < length s → drop i s ≡ get_or s i 0 ∷ get_or s (i + 1) 0 ∷ drop (i + 2) s
drop-pair s i h =
    let a : i < length s = omega arith in
    let e : suc (suc i) ≡ i + 2 = omega arith in
    let b : suc i < length s = omega arith in
    drop-cons s i 0 a ∙ ap (λ l. get_or s i 0 ∷ l) (drop-cons s (suc i) 0 b) ∙ rw (e, add-one)

-- ---- changing every register

pub changed-length : (change : Change) (s : List ℕ) → length (with_registers change s) ≡ length s
unfolding with_registers
changed-length change [] = refl
changed-length change (register ∷ []) = refl
changed-length change (register ∷ value ∷ s) = ap (λ n. suc (suc n)) (changed-length change s)

-- two bytes are stored, one after the other
module _ (lent : List ℕ) (i a b : ℕ) (h : i + 1 < length lent) where
  take-stored : take (i + 2) (set (set lent i a) (i + 1) b) ≡ take i lent ++ a ∷ b ∷ []
  take-stored =
      let e : i + 2 ≡ suc (i + 1) = omega arith in
      let e' : i + 1 ≡ suc i = omega arith in
      let g : i < length lent = omega arith in
      let g' : i + 1 < length (set lent i a) = simp length-set h in
      ap (λ n. take n (set (set lent i a) (i + 1) b)) e ∙ take-suc-set (set lent i a) (i + 1) b g' ∙ ap (λ n. take n (set lent i a) ++ b ∷ []) e' ∙ rw (take-suc-set lent i a g, append_assoc)

  drop-stored : drop (i + 2) (set (set lent i a) (i + 1) b) ≡ drop (i + 2) lent
  drop-stored = drop-set-lt (i + 2) (set lent i a) (i + 1) b (omega arith) ∙ drop-set-lt (i + 2) lent i a (omega arith)

drop_more : (x y : List ℕ) (i n : ℕ) → drop i x ≡ drop i y → drop (i + n) x ≡ drop (i + n) y
drop_more x y i n e = sym (drop-drop n i x) ∙ rw e (drop-drop n i y)

-- the first i bytes are written, and the rest of the lent buffer is as it was
pub record Changing (change : Change) (s lent₀ lent : List ℕ) (i : ℕ) : Type 0 where
  pub whole : length s % 2 ≡ 0
  pub room : length s ≤ length lent₀
  pub within : i ≤ length s
  pub even : i % 2 ≡ 0
  pub long : length lent ≡ length lent₀
  pub front : take i lent ++ with_registers change (drop i s) ≡ with_registers change s
  pub back : drop i lent ≡ drop i lent₀

module _ (change : Change) (s lent₀ : List ℕ) where
  pub changing-none : is_even s ≡ true → length s ≤ length lent₀ → Changing change s lent₀ lent₀ 0
  changing-none e h =
      record { whole = eqb-true _ _ e; room = h; within = omega arith; even = refl; long = refl; front = refl; back = refl }

  module _ (lent : List ℕ) (i : ℕ) (c : Changing change s lent₀ lent i) where
    pub changing-more :
        (r : ℕ) → r ≡ changed change (get_or s i 0) → i < length s → Changing change s lent₀ (set (set lent i r) (i + 1) (get_or s (i + 1) 0)) (i + 2)
    unfolding with_registers
    changing-more r e h =
        let g : i + 1 < length s = omega arith in
        let g' : i + 1 < length lent = omega arith in
        record {
          whole = c.whole;
          room = c.room;
          within = omega arith;
          even = omega arith;
          long = simp length-set c.long;
          front = rw (take-stored lent i r (get_or s (i + 1) 0) g', append_assoc, e) (rw (drop-pair s i g) at c.front);
          back = drop-stored lent i _ _ g' ∙ drop_more lent lent₀ i 2 c.back;
        }

    pub changing-done : length s ≤ i → lent ≡ laid_over (with_registers change s) lent₀
    unfolding with_registers
    changing-done h =
        let p : i ≡ length s = omega arith in
        let e : take (length s) lent ≡ with_registers change s = sym (append-nil _) ∙ rw (p, drop-length) at c.front in
        let d : drop (length s) lent ≡ drop (length s) lent₀ = rw p at c.back in
        sym (take-append-drop (length s) lent) ∙ rw (changed-length change s, e, d)
