-- The definition is a day: each place has its own reading's row, and what does not fit is refused.
use Prim.Native.Nat.{ℕ, zero, suc, ◌+◌, ◌*◌, ◌%◌, ◌<◌}
use mathlib.Core.Path.{◌≡◌, refl, sym, ap, ◌∙◌}
use mathlib.Core.Bool.{Bool, true, false, true≢false}
use mathlib.Core.List.{List, ◌++◌}
use native.Mathlib.Omega.{arith}
use lib.Dec.{ltb, eqb}
use lib.IntN.{ℤ}
use lib.ListN.{length, take}
use lib.Seq.{take-take, get_or-take, take-length}
use borrow.Author.Tests.{ltb-true, ltb-false, eq-eqb, eqb-true, eqb-false}
use Rattle.laws.specs.Tests.{both}
use Rattle.paper.specs.Numbers as no
use Rattle.std.specs.Prelude.{Ok}
use Rattle.calibration.specs.Calibration.{Calibration, words_of, calibrated}
use Rattle.compensation.specs.Compensation.{compensated}
use Rattle.day_row.specs.Row.{numbers_of, answer_of}
use Rattle.day_places.proofs.Kept.{loses-nothing}
use Rattle.day.specs.Day.{answer_from, from_place, rows_of, count, are_equal, day_with, day}
use Rattle.day_places.specs.Places.{Fits, reading_at, row_at, single, Day}
use Rattle.day_places.proofs.Chunks.{in-first, in-second}
use Rattle.day.proofs.Filling.{row-length, rows-length}

-- ---- the row at a place

module _ (known : Calibration) (s : List ℕ) where
  rows_at : (n k : ℕ) → k < n → row_at (rows_of known s n) k ≡ numbers_of (answer_from known (from_place s k))
  unfolding rows_of
  rows_at zero k l = absurd (omega arith)
  rows_at (suc n) k l = go (ltb k n) refl (rows_at n k)
    where
      A : List ℤ
      A = rows_of known s n

      B : List ℤ
      B = numbers_of (answer_from known (from_place s n))

      go : (t : Bool) → ltb k n ≡ t → (k < n → row_at A k ≡ numbers_of (answer_from known (from_place s k))) → row_at (A ++ B) k ≡ numbers_of (answer_from known (from_place s k))
      go true e before = in-first 8 A B n k (rows-length known s n) (ltb-true k n e) ∙ before (ltb-true k n e)
      go false e before =
          let g = ltb-false k n e in
          let z : k ≡ n + 0 = omega (arith, g, l) in
          let y : k ≡ n = omega (arith, g, l) in
          ap (row_at (A ++ B)) z ∙ in-second 8 A B n 0 (rows-length known s n)
          ∙ ap (λ i. take i B) (sym (row-length (answer_from known (from_place s n)))) ∙ take-length B
          ∙ ap (λ j. numbers_of (answer_from known (from_place s j))) (sym y)

-- the eleven bytes at a place are all that its answer looks at
here : (one two s : List ℕ) (k : ℕ) → answer_from (calibrated one two) (from_place s k) ≡ single one two (reading_at s k)
unfolding answer_from compensated
here one two s k =
    let l = from_place s k in
    sym (rw (take-take 8 11 l (omega arith), get_or-take 11 l 8 0 (omega arith), get_or-take 11 l 9 0 (omega arith), get_or-take 11 l 10 0 (omega arith)))

-- ---- what fits

module _ {one two s : List ℕ} {a : List ℤ} {n : ℕ} (f : Fits one two s a n) where
  known_is : calibrated one two ≡ Ok (words_of one two)
  unfolding calibrated
  known_is = rw (f.first, f.second)

  as_many : count (length s) ≡ n
  as_many = let e = f.bytes in omega (arith, e)

  equal : are_equal (length s) (length a) ≡ true
  equal =
      let e = f.bytes in
      let g = f.numbers in
      let c = as_many in
      let x : length s % 11 ≡ 0 = omega (arith, e) in
      let y : length a ≡ count (length s) * 8 = omega (arith, g, c) in
      rw (eq-eqb (length s % 11) 0 x, eq-eqb (length a) (count (length s) * 8) y)

  answered : day one two s a ≡ (no.done, rows_of (calibrated one two) s n)
  unfolding day day_with
  answered = rw (known_is, equal, as_many)

  the_row : (k : ℕ) → k < n → row_at (day one two s a).1 k ≡ numbers_of (single one two (reading_at s k))
  the_row k l =
      ap (λ (x : ℕ × List ℤ). row_at x.1 k) answered ∙ rows_at (calibrated one two) s n k l ∙ ap numbers_of (here one two s k)

-- ---- what does not

pub fits-when : (one two s : List ℕ) (a : List ℤ) → length one ≡ 26 → length two ≡ 7 → are_equal (length s) (length a) ≡ true → Fits one two s a (count (length s))
fits-when one two s a x y e =
    let b = both (eqb (length s % 11) 0) (eqb (length a) (count (length s) * 8)) e in
    let c = eqb-true (length s % 11) 0 b.0 in
    record { first = x; second = y; bytes = omega (arith, c); numbers = eqb-true (length a) (count (length s) * 8) b.1 }

module _ (one two s : List ℕ) (a : List ℤ) where
  wrong_first : eqb (length one) 26 ≡ false → day one two s a ≡ (no.wrong_length, a)
  unfolding day day_with calibrated
  wrong_first e = rw e

  wrong_second : eqb (length one) 26 ≡ true → eqb (length two) 7 ≡ false → day one two s a ≡ (no.wrong_length, a)
  unfolding day day_with calibrated
  wrong_second e f = rw (e, f)

  unequal : eqb (length one) 26 ≡ true → eqb (length two) 7 ≡ true → are_equal (length s) (length a) ≡ false → day one two s a ≡ (no.wrong_length, a)
  unfolding day day_with calibrated
  unequal e f g = rw (e, f, g)

  -- whether it fits, by the three tests
  pub either : {P : Type 0} → (Fits one two s a (count (length s)) → P) → (((n : ℕ) → Fits one two s a n → ⊥) → day one two s a ≡ (no.wrong_length, a) → P) → P
  either {P} done refused = one-test (eqb (length one) 26) refl
    where
      three-tests : eqb (length one) 26 ≡ true → eqb (length two) 7 ≡ true → (t : Bool) → are_equal (length s) (length a) ≡ t → P
      three-tests e f true g = done (fits-when one two s a (eqb-true (length one) 26 e) (eqb-true (length two) 7 f) g)
      three-tests e f false g = refused (λ n h. true≢false (sym (equal h) ∙ g)) (unequal e f g)

      two-tests : eqb (length one) 26 ≡ true → (t : Bool) → eqb (length two) 7 ≡ t → P
      two-tests e true f = three-tests e f (are_equal (length s) (length a)) refl
      two-tests e false f = refused (λ n h. eqb-false (length two) 7 f h.second) (wrong_second e f)

      one-test : (t : Bool) → eqb (length one) 26 ≡ t → P
      one-test true e = two-tests e (eqb (length two) 7) refl
      one-test false e = refused (λ n h. eqb-false (length one) 26 e h.first) (wrong_first e)

  refused-is : ((n : ℕ) → Fits one two s a n → ⊥) → day one two s a ≡ (no.wrong_length, a)
  refused-is never = either (λ f. absurd (never (count (length s)) f)) (λ _ e. e)

  same-length-is : length (day one two s a).1 ≡ length a
  same-length-is =
      either
      (λ f. ap (λ (x : ℕ × List ℤ). length x.1) (answered f) ∙ rows-length (calibrated one two) s (count (length s)) ∙ sym f.numbers)
      (λ _ e. ap (λ (x : ℕ × List ℤ). length x.1) e)

pub day-is : Day day
day-is =
    record {
      done = λ f. ap (λ (x : ℕ × List ℤ). x.0) (answered f);
      row = λ f k l. the_row f k l;
      answer = λ {one} {two} {readings} f k l. ap answer_of (the_row f k l) ∙ loses-nothing one two _ _ _ _;
      refused = refused-is;
      same_length = same-length-is;
    }
