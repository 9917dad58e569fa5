-- Steps that have room are laid down as their words, and what stands past them stays.
use Prim.Native.Nat.{ℕ, suc, ◌+◌, ◌*◌, ◌/◌, ◌≤◌, ◌<◌}
use mathlib.Core.List.{List, [], ◌∷◌, ◌++◌, append_assoc}
use mathlib.Core.Path.{◌≡◌, ap, sym, ◌∙◌}
use native.Mathlib.Omega.{arith}
use borrow.Author.Tests.{lt-ltb}
use lib.ListN.{length, take, drop, length-append, length-drop, take-append-drop}
use lib.Seq.{take_at, drop-append-add, drop-drop, length-take-le}
use Rattle.visit.specs.declared.Step.{Step}
use Rattle.visit.specs.Words.{words, words_of}
use Rattle.visit_step.specs.Places.{over, laid}
use Rattle.visit.proofs.Lists.{words-length}

-- steps one after the other, the first as step k
unfoldable pub laid_all : List Step → ℕ → List ℕ → List ℕ
laid_all [] k list = list
laid_all (step ∷ steps) k list = laid_all steps (k + 1) (laid step k list)

pub laid-append : (a b : List Step) (k : ℕ) (list : List ℕ) → laid_all (a ++ b) k list ≡ laid_all b (k + length a) (laid_all a k list)
unfolding laid_all
laid-append [] b k list = let z : k + 0 ≡ k = omega arith in rw z
laid-append (x ∷ a) b k list = let z : k + suc (length a) ≡ k + 1 + length a = omega arith in rw z (laid-append a b (k + 1) (laid x k list))

-- ---- one step

-- eight words in the place of eight, as the laws of lists have it
abbrev placed : List ℕ → ℕ → List ℕ → List ℕ
placed w at list = take at list ++ w ++ drop (at + 8) list

laid-placed : (step : Step) (k : ℕ) (list : List ℕ) → k < length list / 8 → laid step k list ≡ placed (words step) (k * 8) list
unfolding laid over
laid-placed step k list r =
    rw (lt-ltb k (length list / 8) r) (sym (append_assoc (take (k * 8) list) (words step) (drop (k * 8 + 8) list)))

front_length : (w : List ℕ) (at : ℕ) (list : List ℕ) → length w ≡ 8 → at + 8 ≤ length list → length (take at list ++ w) ≡ at + 8
front_length w at list e r = omega (arith, length-append (take at list) w, length-take-le at list (omega arith))

placed-length : (w : List ℕ) (at : ℕ) (list : List ℕ) → length w ≡ 8 → at + 8 ≤ length list → length (placed w at list) ≡ length list
placed-length w at list e r =
    omega (arith, length-append (take at list ++ w) (drop (at + 8) list), front_length w at list e r, length-drop (at + 8) list)

-- the k-th step on, in front of what was there past them
all-over : (steps : List Step) (k : ℕ) (list : List ℕ) → k + length steps ≤ length list / 8
    → laid_all steps k list ≡ take (k * 8) list ++ (words_of steps ++ drop (k * 8 + length steps * 8) list)
unfolding laid_all words_of
all-over [] k list r = let z : k * 8 + 0 ≡ k * 8 = omega arith in rw z (sym (take-append-drop (k * 8) list))
all-over (x ∷ steps) k list r =
    let w = words x in
    let at = k * 8 in
    let n = length steps in
    let fits : at + 8 ≤ length list = omega arith in
    let step : laid x k list ≡ placed w at list = laid-placed x k list (omega arith) in
    let len : length (placed w at list) ≡ length list = placed-length w at list (words-length x) fits in
    let fr : length (take at list ++ w) ≡ at + 8 = front_length w at list (words-length x) fits in
    let z : (k + 1) * 8 ≡ at + 8 = omega arith in
    let t : take (at + 8) (placed w at list) ≡ take at list ++ w = take_at (take at list ++ w) (drop (at + 8) list) (at + 8) fr in
    let y : at + 8 + n * 8 ≡ at + suc n * 8 = omega arith in
    let d : drop (at + 8 + n * 8) (placed w at list) ≡ drop (at + suc n * 8) list =
    ap (λ i. drop (i + n * 8) (placed w at list)) (sym fr)
    ∙ drop-append-add (take at list ++ w) (drop (at + 8) list) (n * 8)
    ∙ drop-drop (n * 8) (at + 8) list
    ∙ ap (λ i. drop i list) y in
    ap (laid_all steps (k + 1)) step
    ∙ all-over steps (k + 1) (placed w at list) (omega arith)
    ∙ ap (λ i. take i (placed w at list) ++ (words_of steps ++ drop (i + n * 8) (placed w at list))) z
    ∙ (λ i. t i ++ (words_of steps ++ d i))
    ∙ append_assoc (take at list) w (words_of steps ++ drop (at + suc n * 8) list)
    ∙ ap (λ r. take at list ++ r) (sym (append_assoc w (words_of steps) (drop (at + suc n * 8) list)))

pub all_laid : (steps : List Step) (lent : List ℕ) → length steps ≤ length lent / 8 → laid_all steps 0 lent ≡ words_of steps ++ drop (length steps * 8) lent
all_laid steps lent r =
    let z : 0 * 8 + length steps * 8 ≡ length steps * 8 = omega arith in
    all-over steps 0 lent (omega arith) ∙ ap (λ i. words_of steps ++ drop i lent) z
