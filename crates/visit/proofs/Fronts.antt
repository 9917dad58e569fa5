-- What the reader accepts is spelled by a valid tree.
use Prim.Native.Nat.{ℕ, ◌+◌, ◌*◌, ◌/◌, ◌%◌, ◌≤◌, ◌<◌}
use native.Mathlib.Omega.{arith}
use borrow.Author.Tests.{ltb-false, leb-true, eqb-true}
use mathlib.Core.Bool.{Bool, true, false, cond, ◌&&◌}
use mathlib.Core.List.{List, [], ◌∷◌, ◌++◌}
use mathlib.Core.Path.{◌≡◌, refl, sym, ap, subst, ◌∙◌}
use lib.Dec.{eqb, ltb, leb}
use lib.ListN.{length, take, drop, get_or, take-append-drop}
use lib.Seq.{length-take-le}
use Rattle.visit.specs.declared.Place.{Place}
use Rattle.visit.specs.declared.Place.TheVariants as place
use Rattle.visit.specs.declared.Kind.{Kind}
use Rattle.visit.specs.declared.Kind.TheVariants as kind
use Rattle.visit.specs.Tags as tags
use Rattle.visit.specs.Steps.{Answer, value, missing}
use Rattle.visit.specs.Tree.{Reading, exact, pascals, gone, tag_of, most, has_value, has_pascals, has_missing, Within, four_bytes, reading_bytes, framed, Bytes}
use Rattle.visit.specs.Tree.{answer_of}
use Rattle.visit.specs.Reader.{kind_of, Front, holding, telling, failing, front, word_of, is_missing, taken, by_kind}
use Rattle.visit.proofs.Apart.{apart}
use Rattle.visit.proofs.Bytes.{bytes_take, four-back, two_back}
use Rattle.paper.specs.Numbers as no

-- ---- what a tag's meaning says of the tag and the place

-- a chain of tests on the tag
one_of : (P : Kind → Type 0) (tag own : ℕ) (k j : Kind) → (tag ≡ own → P k) → P j → P (cond (eqb tag own) k j)
one_of P tag own k j f g = go (eqb tag own) refl
  where
    go : (b : Bool) → eqb tag own ≡ b → P (cond b k j)
    go true e = f (eqb-true tag own e)
    go false e = g

-- by kind, what it says
abbrev Said : Place → ℕ → Kind → Type 0
Said p tag kind.Group = tag ≡ 1
Said p tag kind.Value = (has_value p ≡ true) × (tag ≡ tag_of p)
Said p tag kind.Pascals = (has_pascals p ≡ true) × (tag ≡ 5)
Said p tag kind.Missing = (has_missing p ≡ true) × (tag ≡ 7)
Said p tag kind.Strange = Unit

said : (p : Place) (tag : ℕ) → Said p tag (kind_of p tag)
said place.Group tag = one_of (Said place.Group tag) tag 1 kind.Group kind.Strange (λ e. e) tt
said place.First tag =
    one_of (Said place.First tag) tag 1 kind.Group (cond (eqb tag 2) kind.Value kind.Strange) (λ e. e)
    (one_of (Said place.First tag) tag 2 kind.Value kind.Strange (λ e. (refl, e)) tt)
said place.Temperature tag =
    one_of (Said place.Temperature tag) tag 3 kind.Value (cond (eqb tag 7) kind.Missing kind.Strange) (λ e. (refl, e))
    (one_of (Said place.Temperature tag) tag 7 kind.Missing kind.Strange (λ e. (refl, e)) tt)
said place.Pressure tag =
    one_of (Said place.Pressure tag) tag 4 kind.Value (cond (eqb tag 5) kind.Pascals (cond (eqb tag 7) kind.Missing kind.Strange)) (λ e. (refl, e))
    (one_of (Said place.Pressure tag) tag 5 kind.Pascals (cond (eqb tag 7) kind.Missing kind.Strange) (λ e. (refl, e))
    (one_of (Said place.Pressure tag) tag 7 kind.Missing kind.Strange (λ e. (refl, e)) tt))
said place.Humidity tag =
    one_of (Said place.Humidity tag) tag 6 kind.Value (cond (eqb tag 7) kind.Missing kind.Strange) (λ e. (refl, e))
    (one_of (Said place.Humidity tag) tag 7 kind.Missing kind.Strange (λ e. (refl, e)) tt)

-- ---- a header that is whole

-- what was read of a field: its tag, its length and what stands after its header
pub record Headed (p : Place) (s : List ℕ) (at : ℕ) (x : Front) : Type 0 where
  pub tag : ℕ
  pub high : ℕ
  pub low : ℕ
  pub after : List ℕ
  pub bytes : s ≡ tag ∷ high ∷ low ∷ after
  pub there : high * 256 + low ≤ length after
  pub gives : by_kind p (kind_of p tag) (high * 256 + low) (take (high * 256 + low) after) (drop (high * 256 + low) after) at ≡ x

abbrev IsFailing : Front → Type 0
IsFailing (failing n o) = Unit
IsFailing (telling a s i) = ⊥
IsFailing (holding b s i) = ⊥

header : (p : Place) (s : List ℕ) (at : ℕ) (x : Front) → (IsFailing x → ⊥) → front p s at ≡ x → Headed p s at x
unfolding front
header p [] at x ok e = absurd (ok (subst IsFailing e tt))
header p (tag ∷ []) at x ok e = absurd (ok (subst IsFailing e tt))
header p (tag ∷ high ∷ []) at x ok e = absurd (ok (subst IsFailing e tt))
header p (tag ∷ high ∷ low ∷ after) at x ok e = go (ltb (length after) n) refl e
  where
    n : ℕ
    n = high * 256 + low

    go : (b : Bool) → ltb (length after) n ≡ b
        → cond b (failing no.cut_short at) (by_kind p (kind_of p tag) n (take n after) (drop n after) at) ≡ x
        → Headed p (tag ∷ high ∷ low ∷ after) at x
    go true c e = absurd (ok (subst IsFailing e tt))
    go false c e = record { tag = tag; high = high; low = low; after = after; bytes = refl; there = ltb-false (length after) n c; gives = e }

-- ---- an answer that was read

pub record Taken (n size : ℕ) (within : Bool) (a b : Answer) (s t : List ℕ) : Type 0 where
  pub size_is : n ≡ size
  pub within-is : within ≡ true
  pub answer-is : a ≡ b
  pub rest-is : s ≡ t

taken-from : (n size : ℕ) (within : Bool) (a b : Answer) (s t : List ℕ) (at next : ℕ) → taken n size within a s at ≡ telling b t next → Taken n size within a b s t
unfolding taken
taken-from n size within a b s t at next e = go (eqb n size) within refl refl e
  where
    go :
        (x y : Bool) → eqb n size ≡ x → within ≡ y
        → cond x (cond y (telling a s (at + 3 + n)) (failing no.value_outside at)) (failing no.wrong_field_length at) ≡ telling b t next → Taken n size within a b s t
    go true true p q e = record { size_is = eqb-true n size p; within-is = q; answer-is = cc; rest-is = cc }
    go true false p q e = apart (cc)
    go false true p q e = apart (cc)
    go false false p q e = apart (cc)

pub record Answered (p : Place) (s : List ℕ) (a : Answer) (rest : List ℕ) : Type 0 where
  pub reading : Reading
  pub within : Within p reading
  pub bytes : s ≡ reading_bytes p reading ++ rest
  pub answer : a ≡ answer_of reading

after-four : (after : List ℕ) (n : ℕ) → Bytes after → n ≤ length after → n ≡ 4 → after ≡ four_bytes (word_of (take n after)) ++ drop n after
after-four after n b h e = rw e (four-back after b (omega arith))

after_two : (after : List ℕ) (n : ℕ) → n ≤ length after → n ≡ 2 → after ≡ get_or (take n after) 0 0 ∷ get_or (take n after) 1 0 ∷ drop n after
after_two after n h e = rw e (two_back after (omega arith))

missing-is : (p : Place) (channel n : ℕ) → is_missing p channel n ≡ true → (channel ≡ tag_of p) × ((10 ≤ n) × (n ≤ 14))
missing-is p channel n e = go (eqb channel (tag_of p)) (leb 10 n) (leb n 14) refl refl refl e
  where
    go : (x y z : Bool) → eqb channel (tag_of p) ≡ x → leb 10 n ≡ y → leb n 14 ≡ z → x && (y && z) ≡ true → (channel ≡ tag_of p) × ((10 ≤ n) × (n ≤ 14))
    go true true true i j k e = (eqb-true _ _ i, (leb-true _ _ j, leb-true _ _ k))
    go true true false i j k e = apart (cc)
    go true false z i j k e = apart (cc)
    go false y z i j k e = apart (cc)

-- a header's three bytes, from its tag and its length
spelled : (tag own high low k : ℕ) (after body : List ℕ) → tag ≡ own → high * 256 + low ≡ k → k < 256 → after ≡ body
    → tag ∷ high ∷ low ∷ after ≡ own ∷ 0 ∷ k ∷ body
spelled tag own high low k after body t n small e =
    let z : high ≡ 0 = omega arith in
    let w : low ≡ k = omega arith in
    rw (t, z, w, e)

module _ (p : Place) (tag high low : ℕ) (after : List ℕ) (at : ℕ) (a : Answer) (rest : List ℕ) (next : ℕ) where
  by_answer : (k : Kind) → Said p tag k → Bytes after → high * 256 + low ≤ length after
      → by_kind p k (high * 256 + low) (take (high * 256 + low) after) (drop (high * 256 + low) after) at ≡ telling a rest next
      → Answered p (tag ∷ high ∷ low ∷ after) a rest
  unfolding by_kind
  by_answer kind.Group m b h e = apart (cc)
  by_answer kind.Value m b h e =
      let n = high * 256 + low in
      let v = word_of (take n after) in
      let t = taken-from n 4 (leb v (most p)) (value v) a (drop n after) rest at next e in
      let body = after-four after n b h t.size_is ∙ ap (λ x. four_bytes v ++ x) t.rest-is in
      record {
        reading = exact v;
        within = (m.0, leb-true v (most p) t.within-is);
        bytes = spelled tag (tag_of p) high low 4 after (four_bytes v ++ rest) m.1 t.size_is (omega arith) body;
        answer = sym t.answer-is;
      }
  by_answer kind.Pascals m b h e =
      let n = high * 256 + low in
      let v = word_of (take n after) in
      let t = taken-from n 4 (leb v tags.most_pascals) (value (v * 256)) a (drop n after) rest at next e in
      let body = after-four after n b h t.size_is ∙ ap (λ x. four_bytes v ++ x) t.rest-is in
      record {
        reading = pascals v;
        within = (m.0, leb-true v tags.most_pascals t.within-is);
        bytes = spelled tag 5 high low 4 after (four_bytes v ++ rest) m.1 t.size_is (omega arith) body;
        answer = sym t.answer-is;
      }
  by_answer kind.Missing m b h e =
      let n = high * 256 + low in
      let c = get_or (take n after) 0 0 in
      let v = get_or (take n after) 1 0 in
      let t = taken-from n 2 (is_missing p c v) (missing v) a (drop n after) rest at next e in
      let ok = missing-is p c v t.within-is in
      let body : after ≡ tag_of p ∷ v ∷ rest = after_two after n h t.size_is ∙ (λ i. ok.0 i ∷ v ∷ t.rest-is i) in
      record {
        reading = gone v;
        within = (m.0, ok.1);
        bytes = spelled tag 7 high low 2 after (tag_of p ∷ v ∷ rest) m.1 t.size_is (omega arith) body;
        answer = sym t.answer-is;
      }
  by_answer kind.Strange m b h e = apart (cc)

pub answer-from : (p : Place) (s : List ℕ) (at : ℕ) (a : Answer) (rest : List ℕ) (next : ℕ) → Bytes s → front p s at ≡ telling a rest next → Answered p s a rest
answer-from p s at a rest next b e =
    let h = header p s at (telling a rest next) (λ x. x) e in
    let c : Bytes (h.tag ∷ h.high ∷ h.low ∷ h.after) = subst Bytes h.bytes b in
    subst (λ x. Answered p x a rest) (sym h.bytes)
    (by_answer p h.tag h.high h.low h.after at a rest next (kind_of p h.tag) (said p h.tag) c.1.1.1 h.there h.gives)

-- ---- a group that was read

pub record Framed (s body rest : List ℕ) : Type 0 where
  pub are-bytes : Bytes body
  pub bytes : s ≡ framed body ++ rest

taken-holding : {X : Type 0} (n size : ℕ) (within : Bool) (a : Answer) (s : List ℕ) (at : ℕ) (body rest : List ℕ) (next : ℕ) → taken n size within a s at ≡ holding body rest next → X
unfolding taken
taken-holding {X} n size within a s at body rest next e = go (eqb n size) within e
  where
    go : (x y : Bool) → cond x (cond y (telling a s (at + 3 + n)) (failing no.value_outside at)) (failing no.wrong_field_length at) ≡ holding body rest next → X
    go true true e = apart (cc)
    go true false e = apart (cc)
    go false true e = apart (cc)
    go false false e = apart (cc)

-- a length's two bytes
two_bytes : (high low : ℕ) (after : List ℕ) (rest : List ℕ) → high < 256 → low < 256 → high * 256 + low ≤ length after → drop (high * 256 + low) after ≡ rest
    → 1 ∷ high ∷ low ∷ after ≡ framed (take (high * 256 + low) after) ++ rest
two_bytes high low after rest hh hl h e =
    let n = high * 256 + low in
    let len : length (take n after) ≡ n = length-take-le n after h in
    let x : n / 256 ≡ high = omega arith in
    let y : n % 256 ≡ low = omega arith in
    let z : take n after ++ rest ≡ after = ap (λ r. take n after ++ r) (sym e) ∙ take-append-drop n after in
    rw (len, x, y, z)

module _ (p : Place) (tag high low : ℕ) (after : List ℕ) (at : ℕ) (body rest : List ℕ) (next : ℕ) where
  by-group : (k : Kind) → Said p tag k → high < 256 → low < 256 → Bytes after → high * 256 + low ≤ length after
      → by_kind p k (high * 256 + low) (take (high * 256 + low) after) (drop (high * 256 + low) after) at ≡ holding body rest next
      → Framed (tag ∷ high ∷ low ∷ after) body rest
  unfolding by_kind
  by-group kind.Group m hh hl b h e =
      let n = high * 256 + low in
      let f : take n after ≡ body = cc in
      let g : drop n after ≡ rest = cc in
      record {
        are-bytes = subst Bytes f (bytes_take n after b);
        bytes = ap (λ x. x ∷ high ∷ low ∷ after) m ∙ two_bytes high low after rest hh hl h g ∙ ap (λ x. framed x ++ rest) f;
      }
  by-group kind.Value m hh hl b h e = taken-holding _ _ _ _ _ _ _ _ _ e
  by-group kind.Pascals m hh hl b h e = taken-holding _ _ _ _ _ _ _ _ _ e
  by-group kind.Missing m hh hl b h e = taken-holding _ _ _ _ _ _ _ _ _ e
  by-group kind.Strange m hh hl b h e = apart (cc)

pub framed-from : (p : Place) (s : List ℕ) (at : ℕ) (body rest : List ℕ) (next : ℕ) → Bytes s → front p s at ≡ holding body rest next → Framed s body rest
framed-from p s at body rest next b e =
    let h = header p s at (holding body rest next) (λ x. x) e in
    let c : Bytes (h.tag ∷ h.high ∷ h.low ∷ h.after) = subst Bytes h.bytes b in
    subst (λ x. Framed x body rest) (sym h.bytes)
    (by-group p h.tag h.high h.low h.after at body rest next (kind_of p h.tag) (said p h.tag) c.1.0 c.1.1.0 c.1.1.1 h.there h.gives)
