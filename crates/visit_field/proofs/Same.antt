-- The front at an offset is the front of the bytes from there to the group's end.
use Prim.Native.Nat.{ℕ, zero, suc, ◌+◌, ◌-◌, ◌≤◌, ◌<◌}
use mathlib.Core.Bool.{Bool, true, false}
use mathlib.Core.List.{List, [], ◌∷◌}
use mathlib.Core.Path.{◌≡◌, refl, ap, sym, ◌∙◌}
use native.Mathlib.Omega.{arith}
use borrow.Author.Tests.{ltb-true, ltb-false, eqb-true, leb-true, leb-false, lt-ltb, le-ltb, le-leb, lt-leb}
use lib.Dec.{eqb, ltb, leb}
use lib.ListN.{length, get_or, take, drop}
use lib.Seq.{slice, slice-cons, length-slice, take-take, drop-drop, get_or-take, get_or-drop}
use Rattle.visit.specs.declared.Place.{Place}
use Rattle.visit.specs.declared.Kind.{Kind}
use Rattle.visit.specs.declared.Kind.TheVariants as kind
use Rattle.visit.specs.Tags as tag
use Rattle.visit.specs.Tree.{tag_of, most}
use Rattle.visit.specs.Reader as reader
use Rattle.paper.specs.Numbers as no
use Rattle.visit_field.specs.Front.{word_at, size_at, value_at, pascals_at, missing_at, by_kind_at, whole_at, front_at}
use Rattle.visit_field.specs.Same.{spread, ReadsFronts}

-- ---- parts of a list

drop-take : (a n : ℕ) (l : List ℕ) → drop a (take (a + n) l) ≡ take n (drop a l)
drop-take zero n l = let z : 0 + n ≡ n = omega arith in rw z
drop-take (suc a) n [] = let z : suc a + n ≡ suc (a + n) = omega arith in rw z (nothing n)
  where
    nothing : (n : ℕ) → ◌≡◌ {A = List ℕ} [] (take n [])
    nothing zero = refl
    nothing (suc n) = refl
drop-take (suc a) n (x ∷ l) = let z : suc a + n ≡ suc (a + n) = omega arith in rw z (drop-take a n l)

take-slice : (a n e : ℕ) (s : List ℕ) → a + n ≤ e → take n (slice a e s) ≡ slice a (a + n) s
take-slice a n e s h =
    let z : a + (e - a) ≡ e = omega arith in
    ap (λ x. take n (drop a (take x s))) (sym z)
    ∙ ap (take n) (drop-take a (e - a) s)
    ∙ take-take n (e - a) (drop a s) (omega arith)
    ∙ sym (drop-take a n s)

getD-slice : (a e i : ℕ) (s : List ℕ) → a + i < e → get_or (slice a e s) i 0 ≡ get_or s (a + i) 0
getD-slice a e i s h = get_or-drop a (take e s) i 0 ∙ get_or-take e s (a + i) 0 h

slice-three : (a e : ℕ) (s : List ℕ) → a + 3 ≤ e → e ≤ length s
    → slice a e s ≡ get_or s a 0 ∷ get_or s (a + 1) 0 ∷ get_or s (a + 2) 0 ∷ slice (a + 3) e s
slice-three a e s h b =
    let z₁ : suc a ≡ a + 1 = omega arith in
    let z₂ : suc (a + 1) ≡ a + 2 = omega arith in
    let z₃ : suc (a + 2) ≡ a + 3 = omega arith in
    slice-cons a e s 0 (omega arith) b
    ∙ ap (λ x. get_or s a 0 ∷ slice x e s) z₁
    ∙ ap (λ x. get_or s a 0 ∷ x) (slice-cons (a + 1) e s 0 (omega arith) b ∙ ap (λ x. get_or s (a + 1) 0 ∷ slice x e s) z₂)
    ∙ ap (λ x. get_or s a 0 ∷ get_or s (a + 1) 0 ∷ x) (slice-cons (a + 2) e s 0 (omega arith) b ∙ ap (λ x. get_or s (a + 2) 0 ∷ slice x e s) z₃)

-- ---- a body by what its tag means

word_same : (s : List ℕ) (a e : ℕ) → a + 4 ≤ e → reader.word_of (slice a e s) ≡ word_at s a
word_same s a e h =
    let z : a + 0 ≡ a = omega arith in
    rw (getD-slice a e 0 s (omega arith), getD-slice a e 1 s (omega arith), getD-slice a e 2 s (omega arith), getD-slice a e 3 s (omega arith), z)

-- a limit asked the other way round
not-over : (m v : ℕ) → ltb m v ≡ false → leb v m ≡ true
not-over m v e = le-leb v m (ltb-false m v e)

over : (m v : ℕ) → ltb m v ≡ true → leb v m ≡ false
over m v e = lt-leb v m (ltb-true m v e)

module _ (p : Place) (s : List ℕ) (at n end : ℕ) where
  -- the body, and what stands after it
  body : List ℕ
  body = slice (at + 3) (at + 3 + n) s

  rest : List ℕ
  rest = slice (at + 3 + n) end s

  value_same : reader.by_kind p kind.Value n body rest at ≡ spread s end at (value_at p s at n)
  unfolding reader.by_kind reader.taken value_at body rest
  value_same = go (eqb n 4) (ltb (most p) (word_at s (at + 3))) refl refl
    where
      w : n ≡ 4 → reader.word_of body ≡ word_at s (at + 3)
      w e = word_same s (at + 3) (at + 3 + n) (omega arith)

      go : (b c : Bool) → eqb n 4 ≡ b → ltb (most p) (word_at s (at + 3)) ≡ c → reader.by_kind p kind.Value n body rest at ≡ spread s end at (value_at p s at n)
      go false c e f = rw e
      go true true e f = rw (e, w (eqb-true n 4 e), f, over (most p) (word_at s (at + 3)) f)
      go true false e f = rw (e, w (eqb-true n 4 e), f, not-over (most p) (word_at s (at + 3)) f)

  pascals-same : reader.by_kind p kind.Pascals n body rest at ≡ spread s end at (pascals_at s at n)
  unfolding reader.by_kind reader.taken pascals_at body rest
  pascals-same = go (eqb n 4) (ltb tag.most_pascals (word_at s (at + 3))) refl refl
    where
      w : n ≡ 4 → reader.word_of body ≡ word_at s (at + 3)
      w e = word_same s (at + 3) (at + 3 + n) (omega arith)

      go : (b c : Bool) → eqb n 4 ≡ b → ltb tag.most_pascals (word_at s (at + 3)) ≡ c → reader.by_kind p kind.Pascals n body rest at ≡ spread s end at (pascals_at s at n)
      go false c e f = rw e
      go true true e f = rw (e, w (eqb-true n 4 e), f, over tag.most_pascals (word_at s (at + 3)) f)
      go true false e f = rw (e, w (eqb-true n 4 e), f, not-over tag.most_pascals (word_at s (at + 3)) f)

  missing-same : reader.by_kind p kind.Missing n body rest at ≡ spread s end at (missing_at p s at n)
  unfolding reader.by_kind reader.taken missing_at body rest
  missing-same = go (eqb n 2) (eqb channel (tag_of p)) (ltb number 10) (ltb 14 number) refl refl refl refl
    where
      channel : ℕ
      channel = get_or s (at + 3) 0

      number : ℕ
      number = get_or s (at + 4) 0

      c₀ : n ≡ 2 → get_or body 0 0 ≡ channel
      c₀ e = let z : at + 3 + 0 ≡ at + 3 = omega arith in getD-slice (at + 3) (at + 3 + n) 0 s (omega arith) ∙ ap (λ i. get_or s i 0) z

      c₁ : n ≡ 2 → get_or body 1 0 ≡ number
      c₁ e = let z : at + 3 + 1 ≡ at + 4 = omega arith in getD-slice (at + 3) (at + 3 + n) 1 s (omega arith) ∙ ap (λ i. get_or s i 0) z

      go : (a b c d : Bool) → eqb n 2 ≡ a → eqb channel (tag_of p) ≡ b → ltb number 10 ≡ c → ltb 14 number ≡ d
          → reader.by_kind p kind.Missing n body rest at ≡ spread s end at (missing_at p s at n)
      go false b c d e f g h = rw e
      go true false c d e f g h = rw (e, c₀ (eqb-true n 2 e), f)
      go true true true d e f g h = rw (e, c₀ (eqb-true n 2 e), c₁ (eqb-true n 2 e), f, g, over number 10 g)
      go true true false true e f g h = rw (e, c₀ (eqb-true n 2 e), c₁ (eqb-true n 2 e), f, g, not-over number 10 g, h, over 14 number h)
      go true true false false e f g h = rw (e, c₀ (eqb-true n 2 e), c₁ (eqb-true n 2 e), f, g, not-over number 10 g, h, not-over 14 number h)

  kind-same : (k : Kind) → reader.by_kind p k n body rest at ≡ spread s end at (by_kind_at p k s at n)
  unfolding reader.by_kind body rest
  kind-same kind.Group = refl
  kind-same kind.Value = value_same
  kind-same kind.Pascals = pascals-same
  kind-same kind.Missing = missing-same
  kind-same kind.Strange = refl

-- ---- a front

short-fails : (p : Place) (s : List ℕ) (at : ℕ) → length s < 3 → reader.front p s at ≡ reader.failing no.cut_short at
unfolding reader.front
short-fails p [] at h = refl
short-fails p (a ∷ []) at h = refl
short-fails p (a ∷ b ∷ []) at h = refl
short-fails p (a ∷ b ∷ c ∷ s) at h = absurd (omega arith)

pub reads-fronts : ReadsFronts front_at
unfolding reader.front front_at whole_at body rest
reads-fronts p s end at h b = go (leb (at + 3) end) (leb (at + 3 + n) end) refl refl
  where
    n : ℕ
    n = size_at s at

    go : (x y : Bool) → leb (at + 3) end ≡ x → leb (at + 3 + n) end ≡ y → reader.front p (slice at end s) at ≡ spread s end at (front_at p s end at)
    go false y e f = rw (le-leb end (length s) b, e) (short-fails p (slice at end s) at (omega (arith, length-slice at end s b, leb-false (at + 3) end e)))
    go true y e f = cut-or-whole y f
      where
        t : at + 3 ≤ end
        t = leb-true (at + 3) end e

        cut-or-whole : (y : Bool) → leb (at + 3 + n) end ≡ y → reader.front p (slice at end s) at ≡ spread s end at (front_at p s end at)
        cut-or-whole false f =
            rw (
              le-leb end (length s) b,
              e,
              f,
              slice-three at end s t b,
              length-slice (at + 3) end s b,
              lt-ltb (end - (at + 3)) n (omega (arith, t, leb-false (at + 3 + n) end f)),
            )
        cut-or-whole true f =
            rw (
              le-leb end (length s) b,
              e,
              f,
              slice-three at end s t b,
              length-slice (at + 3) end s b,
              le-ltb (end - (at + 3)) n (omega (arith, t, leb-true (at + 3 + n) end f)),
              take-slice (at + 3) n end s (leb-true (at + 3 + n) end f),
              drop-drop n (at + 3) (take end s),
            )
            (kind-same p s at n end (reader.kind_of p (get_or s at 0)))
