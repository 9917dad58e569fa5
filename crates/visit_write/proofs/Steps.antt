-- The steps of a lent list one by one: what stands at a place, and how many there are.
use Prim.Native.Nat.{ℕ, zero, suc, ◌+◌, ◌*◌, ◌/◌, ◌<◌}
use mathlib.Core.List.{List, ◌∷◌}
use mathlib.Core.Path.{◌≡◌, refl, ap, ◌∙◌}
use native.Mathlib.Numerals.{add-one}
use native.Mathlib.Omega.{arith}
use borrow.Author.Tests.{lt-ltb}
use lib.ListN.{length, drop}
use lib.Seq.{drop-drop}
use Rattle.visit.specs.Words.{words_each, step_from, steps_first, from_words}
use Rattle.visit_step.specs.Places.{step_at}

first-from : (n k : ℕ) (w : List ℕ) → k < n
    → drop k (steps_first n w) ≡ step_from (drop (k * words_each) w) ∷ drop (suc k) (steps_first n w)
unfolding steps_first
first-from zero k w h = absurd (omega arith)
first-from (suc n) zero w h = refl
first-from (suc n) (suc k) w h =
    let s : words_each + k * words_each ≡ suc k * words_each = omega arith in
    let e : drop (k * words_each) (drop words_each w) ≡ drop (suc k * words_each) w = drop-drop (k * words_each) words_each w ∙ rw s in
    first-from n k (drop words_each w) (omega arith) ∙ rw e

counted : (n : ℕ) (w : List ℕ) → length (steps_first n w) ≡ n
unfolding steps_first
counted zero w = refl
counted (suc n) w = ap suc (counted n (drop words_each w))

pub count_of : (w : List ℕ) → length (from_words w) ≡ length w / words_each
count_of w = counted (length w / words_each) w

pub next-step : (w : List ℕ) (k : ℕ) → k < length w / words_each → drop k (from_words w) ≡ step_at w k ∷ drop (k + 1) (from_words w)
unfolding step_at
next-step w k h = rw (lt-ltb k (length w / words_each) h, add-one) (first-from (length w / words_each) k w h)
