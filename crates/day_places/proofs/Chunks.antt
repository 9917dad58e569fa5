-- Parts of one length, one after the other: the part at a place of a list and of two lists joined, and lists that have the same parts.
use Prim.Native.Nat.{ℕ, zero, suc, ◌+◌, ◌*◌, ◌≤◌, ◌<◌}
use mathlib.Core.Path.{◌≡◌, refl, sym, ap, ◌∙◌}
use mathlib.Core.List.{List, [], ◌∷◌, ◌++◌}
use native.Mathlib.Nat.{suc-mul, add-mul, mul-le-mul_right}
use native.Mathlib.Omega.{arith}
use lib.ListN.{length, take, drop, length-drop, take-append-drop}
use lib.Seq.{take-append-le, drop-append-le, drop-append-add, drop-drop}

module _ {A : Type 0} (w : ℕ) where
  abbrev pub part : List A → ℕ → List A
  part list k = take w (drop (k * w) list)

  -- the parts after the first are those of the rest
  shifted : (xs : List A) (k : ℕ) → part (drop w xs) k ≡ part xs (suc k)
  shifted xs k =
      let e = suc-mul k w in
      let z : w + k * w ≡ suc k * w = omega (arith, e) in
      ap (take w) (drop-drop (k * w) w xs ∙ ap (λ i. drop i xs) z)

  first : (xs : List A) → part xs 0 ≡ take w xs
  first xs = ap (λ i. take w (drop i xs)) (let z : 0 * w ≡ 0 = omega arith in z)

  rest-length : (n : ℕ) (xs : List A) → length xs ≡ suc n * w → length (drop w xs) ≡ n * w
  rest-length n xs e = let a = suc-mul n w in let b = length-drop w xs in omega (arith, a, b, e)

  none : (xs : List A) → length xs ≡ 0 → xs ≡ []
  none [] e = refl
  none (x ∷ xs) e = absurd (omega arith)

  pub by_parts : (n : ℕ) (xs ys : List A) → length xs ≡ n * w → length ys ≡ n * w → ((k : ℕ) → k < n → part xs k ≡ part ys k) → xs ≡ ys
  by_parts zero xs ys a b same = let z : 0 * w ≡ 0 = omega arith in none xs (a ∙ z) ∙ sym (none ys (b ∙ z))
  by_parts (suc n) xs ys a b same =
      let front : take w xs ≡ take w ys = sym (first xs) ∙ same 0 (omega arith) ∙ first ys in
      let back : drop w xs ≡ drop w ys =
      by_parts n (drop w xs) (drop w ys) (rest-length n xs a) (rest-length n ys b)
      (λ k l. shifted xs k ∙ same (suc k) (omega arith) ∙ sym (shifted ys k)) in
      sym (take-append-drop w xs) ∙ ap (λ l. l ++ drop w xs) front ∙ ap (λ l. take w ys ++ l) back ∙ take-append-drop w ys

  pub in-first : (xs ys : List A) (n k : ℕ) → length xs ≡ n * w → k < n → part (xs ++ ys) k ≡ part xs k
  in-first xs ys n k e l =
      let m : suc k * w ≤ n * w = mul-le-mul_right w l in
      let s = suc-mul k w in
      let d = length-drop (k * w) xs in
      ap (take w) (drop-append-le (k * w) xs ys (omega (arith, m, s, e))) ∙ take-append-le w (drop (k * w) xs) ys (omega (arith, m, s, e, d))

  pub in-second : (xs ys : List A) (n k : ℕ) → length xs ≡ n * w → part (xs ++ ys) (n + k) ≡ part ys k
  in-second xs ys n k e =
      let a = add-mul n k w in
      let z : (n + k) * w ≡ length xs + k * w = omega (arith, a, e) in
      ap (take w) (ap (λ i. drop i (xs ++ ys)) z ∙ drop-append-add xs ys (k * w))
