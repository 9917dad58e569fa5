-- Any two days are one, the day of two lists joined is the two days joined, and each place depends on its own reading alone.
use Prim.Native.Nat.{ℕ, ◌+◌, ◌-◌, ◌*◌, ◌<◌}
use mathlib.Core.Path.{◌≡◌, refl, sym, ap, ◌∙◌}
use mathlib.Core.Bool.{Bool, true, false}
use mathlib.Core.List.{List, ◌++◌}
use native.Mathlib.Omega.{arith}
use lib.Dec.{ltb}
use lib.IntN.{ℤ}
use lib.ListN.{length, length-append}
use borrow.Author.Tests.{ltb-true, ltb-false}
use Rattle.day_row.specs.Row.{numbers_of}
use Rattle.day.specs.Day.{day}
use Rattle.day_places.specs.Places.{Call, Fits, reading_at, row_at, single, Day, OneDay, Joins, Alone}
use Rattle.day_places.proofs.Chunks.{by_parts, in-first, in-second}
use Rattle.day_places.proofs.EachPlace.{either, day-is}

pair : {A B : Type 0} (x y : A × B) → x.0 ≡ y.0 → x.1 ≡ y.1 → x ≡ y
pair x y e f = λ i. (e i, f i)

-- two lists of answers that have the same rows
same_rows : (f g : Call) → Day f → Day g → {one two s : List ℕ} {a b : List ℤ} {n : ℕ} → Fits one two s a n → Fits one two s b n →
    (f one two s a).1 ≡ (g one two s b).1
same_rows f g df dg {one} {two} {s} {a} {b} {n} p q =
    by_parts 8 n (f one two s a).1 (g one two s b).1 (df.same_length one two s a ∙ p.numbers) (dg.same_length one two s b ∙ q.numbers)
    (λ k l. df.row p k l ∙ sym (dg.row q k l))

pub one-day : OneDay
one-day f g df dg one two s a =
    either one two s a
    (λ p. pair _ _ (df.done p ∙ sym (dg.done p)) (same_rows f g df dg p p))
    (λ never e. df.refused one two s a never ∙ sym (dg.refused one two s a never))

together : {one two r s : List ℕ} {a b : List ℤ} {n m : ℕ} → Fits one two r a n → Fits one two s b m → Fits one two (r ++ s) (a ++ b) (n + m)
together {r = r} {s = s} {a = a} {b = b} p q =
    let e = length-append r s in
    let f = length-append a b in
    let pb = p.bytes in
    let qb = q.bytes in
    let pn = p.numbers in
    let qn = q.numbers in
    record { first = p.first; second = p.second; bytes = omega (arith, e, pb, qb); numbers = omega (arith, f, pn, qn) }

module _ (call : Call) (d : Day call) where
  -- at each place of the joined lists the row is that of the one list or the other
  joined-rows : (one two r s : List ℕ) (a b : List ℤ) (n m : ℕ) → Fits one two r a n → Fits one two s b m → (k : ℕ) → k < n + m →
      numbers_of (single one two (reading_at (r ++ s) k)) ≡ row_at ((call one two r a).1 ++ (call one two s b).1) k
  joined-rows one two r s a b n m p q k l = go (ltb k n) refl
    where
      x : List ℤ
      x = (call one two r a).1

      y : List ℤ
      y = (call one two s b).1

      xn : length x ≡ n * 8
      xn = d.same_length one two r a ∙ p.numbers

      go : (t : Bool) → ltb k n ≡ t → numbers_of (single one two (reading_at (r ++ s) k)) ≡ row_at (x ++ y) k
      go true e =
          let h = ltb-true k n e in
          ap (λ z. numbers_of (single one two z)) (in-first 11 r s n k p.bytes h) ∙ sym (d.row p k h) ∙ sym (in-first 8 x y n k xn h)
      go false e =
          let h = ltb-false k n e in
          let j = k - n in
          let z : k ≡ n + j = omega (arith, h) in
          let i : j < m = omega (arith, h, l) in
          rw z
          (ap (λ z. numbers_of (single one two z)) (in-second 11 r s n j p.bytes) ∙ sym (d.row q j i) ∙ sym (in-second 8 x y n j xn))

  pub joins : Joins call
  joins one two r s a b n m p q =
      let both : Fits one two (r ++ s) (a ++ b) (n + m) = together p q in
      let x = (call one two r a).1 in
      let y = (call one two s b).1 in
      let xn : length x ≡ n * 8 = d.same_length one two r a ∙ p.numbers in
      let yn : length y ≡ m * 8 = d.same_length one two s b ∙ q.numbers in
      pair _ _ (d.done both)
      (by_parts 8 (n + m) (call one two (r ++ s) (a ++ b)).1 (x ++ y)
      (d.same_length one two (r ++ s) (a ++ b) ∙ both.numbers)
      (let e = length-append x y in omega (arith, e, xn, yn))
      (λ k l. d.row both k l ∙ joined-rows one two r s a b n m p q k l))

  pub alone : Alone call
  alone one two r s a b n m j k p q l h e = d.row p j l ∙ ap (λ x. numbers_of (single one two x)) e ∙ sym (d.row q k h)

-- ---- of the definition

pub day-joins : Joins day
day-joins = joins day day-is

pub day-alone : Alone day
day-alone = alone day day-is
