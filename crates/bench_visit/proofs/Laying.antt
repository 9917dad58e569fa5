-- One step more in a list.
use Prim.Native.Nat.{ℕ, ◌+◌, ◌*◌, ◌/◌, ◌≤◌, ◌<◌}
use native.Mathlib.Omega.{arith}
use borrow.Author.Tests.{ltb-true}
use mathlib.Core.Bool.{Bool, true, false, cond}
use mathlib.Core.List.{List, ◌∷◌, ◌++◌, append_assoc}
use mathlib.Core.Path.{◌≡◌, refl, sym, ap, ◌∙◌}
use lib.Dec.{ltb}
use lib.ListN.{length, take, drop, length-append}
use lib.Seq.{length-take-le, take-append_seam}
use Rattle.std.specs.Prelude.{Some, None}
use Rattle.laws.specs.Tests.{never}
use Rattle.visit.specs.declared.Step.{Step}
use Rattle.visit.specs.declared.Step.TheVariants.{Open, Slot, Close, Stray}
use Rattle.visit.specs.Words.{words}
use Rattle.visit_step.specs.Places as places
use Rattle.bench_step.specs.Reading.{before, step}
use Rattle.bench_visit.specs.Line.{is_stray, following, Flat, laid, placed}
use Rattle.bench_visit.proofs.Words.{no_more, next}

eight : (s : Step) → length (words s) ≡ 8
unfolding words
eight Open = refl
eight (Slot s) = refl
eight Close = refl
eight Stray = refl

-- the words before a step and its own are the front of the list in which it is laid
module _ (s : Step) (k : ℕ) (list : List ℕ) (h : k * 8 ≤ length list) where
  own : (k + 1) * 8 ≡ length (take (k * 8) list ++ words s)
  own = rw (length-append (take (k * 8) list) (words s), eight s, length-take-le (k * 8) list h) (omega arith)

  front : take ((k + 1) * 8) (places.over (words s) (k * 8) list) ≡ take (k * 8) list ++ words s
  unfolding places.over
  front =
      rw (own, ← append_assoc (take (k * 8) list) (words s) (drop (k * 8 + 8) list))
      (take-append_seam (take (k * 8) list ++ words s) (drop (k * 8 + 8) list))

-- ---- by whether a step was laid

not-laid : {A : Type 0} (b t r : Bool) (l list more : List ℕ) (x y : A) → ◌≡◌ {A = Bool × List ℕ} (r, l) (cond b (false, list) (t, more)) → r ≡ false → cond b y (cond t x y) ≡ y
not-laid true t r l list more x y e f = refl
not-laid false true r l list more x y e f = absurd (never (sym f ∙ ap (λ (p : Bool × List ℕ). p.0) e))
not-laid false false r l list more x y e f = refl

record Was (b t : Bool) (l more : List ℕ) : Type 0 where
  own : b ≡ false
  fits : t ≡ true
  after : l ≡ more

was-laid : (b t r : Bool) (l list more : List ℕ) → ◌≡◌ {A = Bool × List ℕ} (r, l) (cond b (false, list) (t, more)) → r ≡ true → Was b t l more
was-laid true t r l list more e f = absurd (never (sym (ap (λ (p : Bool × List ℕ). p.0) e) ∙ f))
was-laid false t r l list more e f =
    record { own = refl; fits = sym (ap (λ (p : Bool × List ℕ). p.0) e) ∙ f; after = ap (λ (p : Bool × List ℕ). p.1) e }

module _ (k : ℕ) (list l word : List ℕ) (r : Bool) (e : (r, l) ≡ placed (step word) k list) where
  refused : (held : List ℕ) (others : List (List ℕ)) → r ≡ false → laid (length list / 8) k held (word ∷ others) ≡ None
  unfolding laid placed
  refused held others f =
      not-laid (is_stray (step word)) (ltb k (length list / 8)) r l list (places.laid (step word) k list)
      (laid (length list / 8) (k + 1) (held ++ words (step word)) others) None e f

  was : r ≡ true → Was (is_stray (step word)) (ltb k (length list / 8)) l (places.laid (step word) k list)
  unfolding placed
  was f = was-laid (is_stray (step word)) (ltb k (length list / 8)) r l list (places.laid (step word) k list) e f

  pub room : r ≡ true → (k + 1) * 8 ≤ length list
  room f = omega (arith, ltb-true k (length list / 8) (was f).fits)

  one_more :
      (others : List (List ℕ)) → k * 8 ≤ length list → r ≡ true
      → laid (length list / 8) k (take (k * 8) list) (word ∷ others) ≡ laid (length list / 8) (k + 1) (take ((k + 1) * 8) l) others
  unfolding laid places.laid
  one_more others h f =
      let w = was f in
      rw (w.own, w.fits, w.after, w.fits, front (step word) k list h)

  -- ---- the word is the next one of a line

  module _
      (line list₀ : List ℕ) (at : ℕ) (n : length list ≡ length list₀) (h : at < length line) (w : word ≡ before 32 (drop (at + 1) line)) (whole : Flat)
      (f : laid (length list₀ / 8) k (take (k * 8) list) (following (drop at line)) ≡ whole) where
    pub stopped : r ≡ false → None ≡ whole
    stopped g = sym (refused (take (k * 8) list) (following (drop (at + (1 + length word)) line)) g) ∙ rw (← n, next line at h word w) at f

    pub onward :
        k * 8 ≤ length list → r ≡ true
        → laid (length list₀ / 8) (k + 1) (take ((k + 1) * 8) l) (following (drop (at + (1 + length word)) line)) ≡ whole
    onward i g =
        rw (← n) (sym (one_more (following (drop (at + (1 + length word)) line)) i g) ∙ rw (← n, next line at h word w) at f)

pub ended :
    (line list : List ℕ) (room k at : ℕ) (whole : Flat) → length line ≤ at → laid room k (take (k * 8) list) (following (drop at line)) ≡ whole
    → Some (take (k * 8) list) ≡ whole
unfolding laid
ended line list room k at whole h f = rw (no_more line at h) at f
