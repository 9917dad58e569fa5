-- The reader over places reads of a record what the reader over lists of bytes reads, counts its steps first, and so leaves the list alone where it refuses.
use Prim.Native.Nat.{ℕ, ◌+◌, ◌-◌, ◌/◌, ◌≤◌, ◌<◌}
use mathlib.Core.Bool.{Bool, true, false, cond}
use mathlib.Core.List.{List, [], ◌∷◌, ◌++◌}
use mathlib.Core.Path.{◌≡◌, refl, ap, sym, subst, ◌∙◌}
use native.Mathlib.Omega.{arith}
use borrow.Rule.Slice.PartMut.{mid_of, put_mid}
use borrow.Author.Tests.{lt-ltb, le-ltb, ltb-true, ltb-false}
use lib.Dec.{ltb}
use lib.ListN.{length, take, drop, length-append, take-append-drop}
use lib.Seq.{slice, slice-cons, slice_empty, take-length, length-take-le}
use Rattle.visit.specs.declared.Place.TheVariants as place
use Rattle.visit.specs.declared.Step.{Step}
use Rattle.visit.specs.Tags as tag
use Rattle.visit.specs.Reader as reader
use Rattle.visit.specs.Lent.{read_by, read_into}
use Rattle.paper.specs.Numbers as no
use Rattle.std.specs.Prelude.{Ok, Err}
use Rattle.visit.specs.declared.Fault.{Fault}
use Rattle.visit.specs.declared.RecordError.TheVariants.{Whole, At}
use Rattle.visit.specs.Answers.{fault, Tells}
use Rattle.paper.specs.Answers.{refusal}
use Rattle.visit_read.specs.declared.Field.TheVariants as field
use Rattle.visit_read.specs.Answers.{read_answer}
use Rattle.visit_read.specs.Slots.{Filling}
use Rattle.visit_read.specs.Groups.{FieldRead, field_at}
use Rattle.visit_read.specs.Whole.{whole_by, whole_after, whole_at, count_at}
use Rattle.visit_read.proofs.Laid.{laid_all, all_laid}
use Rattle.visit.proofs.Faults.{ReadFault, read-fault}
use Rattle.visit_read.proofs.SameSlots.{ShowsRead, ShowsField}
use Rattle.visit_read.proofs.SameGroups.{field-same}

slice-whole : (s : List ℕ) → slice 0 (length s) s ≡ s
slice-whole s = take-length s

whole_from : (s : List ℕ) (x : reader.Field) (list : List ℕ) (y : FieldRead × List ℕ) → ShowsField s (length s) 0 x 0 list y → ShowsRead (reader.record_from x) 0 list (whole_after (length s) y)
unfolding reader.record_from
whole_from s (reader.grouped held rest next) list y h =
    subst (λ (z : FieldRead × List ℕ). ShowsRead (reader.ended held rest next) 0 list (whole_after (length s) z)) (sym h.0)
    (subst (λ x. ShowsRead (reader.ended held x next) 0 list (whole_after (length s) (Ok (field.Group next (0 + length held)), laid_all held 0 list))) (sym h.1.0)
    (ended-laid held s next list h.1.1.1))
  where
    ended-laid : (held : List Step) (s : List ℕ) (next : ℕ) (list : List ℕ) → next ≤ length s
        → ShowsRead (reader.ended held (slice next (length s) s) next) 0 list (whole_after (length s) (Ok (field.Group next (0 + length held)), laid_all held 0 list))
    ended-laid held s next list h = go (ltb next (length s)) refl
      where
        go : (t : Bool) → ltb next (length s) ≡ t
            → ShowsRead (reader.ended held (slice next (length s) s) next) 0 list
            (cond t (Err (fault no.tag_out_of_place next), laid_all held 0 list) (Ok (0 + length held), laid_all held 0 list))
        go true f =
            let cons = slice-cons next (length s) s 0 (ltb-true next (length s) f) (omega arith) in
            subst (λ x. ShowsRead (reader.ended held x next) 0 list (Err (fault no.tag_out_of_place next), laid_all held 0 list)) (sym cons) refl
        go false f =
            let z : next ≡ length s = omega (arith, ltb-false next (length s) f) in
            subst (λ x. ShowsRead (reader.ended held x next) 0 list (Ok (0 + length held), laid_all held 0 list)) (sym (ap (λ i. slice i (length s) s) z ∙ slice_empty (length s) s)) refl
whole_from s (reader.answered a rest next) list y h = ap (λ (z : FieldRead × List ℕ). (whole_after (length s) z).0) h.0
whole_from s (reader.bad n o) list y h = ap (λ (z : FieldRead). (whole_by (length s) z y.1).0) h

whole_same : (s list : List ℕ) → ShowsRead (reader.read_record s) 0 list (whole_at s list)
unfolding reader.read_record whole_at
whole_same s list =
    subst (λ x. ShowsRead (reader.record_from (reader.field_of tag.levels place.Group x 0)) 0 list (whole_at s list)) (slice-whole s)
    (whole_from s (reader.field_of tag.levels place.Group (slice 0 (length s) s) 0) list (field_at tag.levels s (length s) place.Group 0 0 list)
    (field-same tag.levels s (length s) (omega arith) place.Group 0 0 list (omega arith)))

done-is : (k l : ℕ) → ◌≡◌ {A = Filling} (Ok k) (Ok (0 + l)) → k ≡ l
done-is k l e = let z : k ≡ 0 + l = cc in omega arith

same-fault : (f g : Fault) → ◌≡◌ {A = Filling} (Err f) (Err g) → f ≡ g
same-fault f g e = cc

never : ◌≡◌ {A = ℕ} 0 1 → ⊥
never z = omega arith

done_refused : {X : Type 0} (k : ℕ) (f : Fault) → ◌≡◌ {A = Filling} (Ok k) (Err f) → X
done_refused k f e = absurd (never (cc))

-- ---- what the code answers

pub visit-long : (s lent : List ℕ) → tag.most_bytes < length s → (read_answer (Err (Whole (refusal no.wrong_length))), lent) ≡ read_into s lent
unfolding read_into
visit-long s lent h = rw (lt-ltb tag.most_bytes (length s) h)

read_is : (s lent : List ℕ) → length s ≤ tag.most_bytes → read_by (reader.read_record s) lent ≡ read_into s lent
unfolding read_into
read_is s lent h = rw (le-ltb tag.most_bytes (length s) h)

-- from what was counted, with the list as it was
module _ (s lent : List ℕ) (h : length s ≤ tag.most_bytes) (x : Filling) (list : List ℕ) (c : (x, list) ≡ count_at s lent) where
  is-counted : x ≡ (whole_at s []).0
  unfolding count_at
  is-counted = ap (λ (z : Filling × List ℕ). z.0) c

  is-lent : list ≡ lent
  unfolding count_at
  is-lent = ap (λ (z : Filling × List ℕ). z.1) c

  pub visit-refused : (f : Fault) → x ≡ Err f → (read_answer (Err (At f)), list) ≡ read_into s lent
  visit-refused f e = rw is-lent (go (reader.read_record s) (whole_same s []) ∙ read_is s lent h)
    where
      go : (r : reader.Read) → ShowsRead r 0 [] (whole_at s []) → (read_answer (Err (At f)), lent) ≡ read_by r lent
      go (reader.read held) w = done_refused (0 + length held) f (sym (sym e ∙ is-counted ∙ ap (λ (z : Filling × List ℕ). z.0) w))
      go (reader.refused m p) w = let a : f ≡ fault m p = same-fault f (fault m p) (sym e ∙ is-counted ∙ w) in rw a

  pub refusal-told : (f : Fault) → x ≡ Err f → Tells (Err (At f))
  refusal-told f e = go (reader.read_record s) (whole_same s []) (read-fault s)
    where
      go : (r : reader.Read) → ShowsRead r 0 [] (whole_at s []) → ReadFault r → Tells (Err (At f))
      go (reader.read held) w i = done_refused (0 + length held) f (sym (sym e ∙ is-counted ∙ ap (λ (z : Filling × List ℕ). z.0) w))
      go (reader.refused m p) w i = omega (arith, ap (λ (g : Fault). g.number) (same-fault f (fault m p) (sym e ∙ is-counted ∙ w)))

  pub visit-short : (k : ℕ) → x ≡ Ok k → length list / 8 < k → (read_answer (Err (Whole (refusal no.buffer_too_short))), list) ≡ read_into s lent
  visit-short k e l = rw is-lent (go (reader.read_record s) (whole_same s []) ∙ read_is s lent h)
    where
      go : (r : reader.Read) → ShowsRead r 0 [] (whole_at s []) → (read_answer (Err (Whole (refusal no.buffer_too_short))), lent) ≡ read_by r lent
      go (reader.read held) w =
          let q : k ≡ length held = done-is k (length held) (sym e ∙ is-counted ∙ ap (λ (z : Filling × List ℕ). z.0) w) in
          rw (lt-ltb (length lent / 8) (length held) (omega (arith, ap length is-lent)))
      go (reader.refused m p) w = done_refused k (fault m p) (sym e ∙ is-counted ∙ w)

  pub visit-read : (k : ℕ) (y : Filling) (list' : List ℕ) → x ≡ Ok k → k ≤ length list / 8 → (y, list') ≡ whole_at s list
      → (read_answer (Ok k), list') ≡ read_into s lent
  visit-read k y list' e l d = go (reader.read_record s) (whole_same s []) (whole_same s lent) ∙ read_is s lent h
    where
      go : (r : reader.Read) → ShowsRead r 0 [] (whole_at s []) → ShowsRead r 0 lent (whole_at s lent) → (read_answer (Ok k), list') ≡ read_by r lent
      go (reader.read held) w v =
          let q : k ≡ length held = done-is k (length held) (sym e ∙ is-counted ∙ ap (λ (z : Filling × List ℕ). z.0) w) in
          let there : length held ≤ length lent / 8 = omega (arith, ap length is-lent) in
          let o : list' ≡ laid_all held 0 lent = ap (λ (z : Filling × List ℕ). z.1) (d ∙ ap (whole_at s) is-lent ∙ v) in
          rw (le-ltb (length lent / 8) (length held) there, q, o, all_laid held lent there)
      go (reader.refused m p) w v = done_refused k (fault m p) (sym e ∙ is-counted ∙ w)

  -- read again, it is not refused
  pub not-refused : {X : Type 0} (k : ℕ) (f : Fault) (y : Filling) (list' : List ℕ) → x ≡ Ok k → (y, list') ≡ whole_at s list → y ≡ Err f → X
  not-refused {X} k f y list' e d g = go (reader.read_record s) (whole_same s []) (whole_same s list)
    where
      go : (r : reader.Read) → ShowsRead r 0 [] (whole_at s []) → ShowsRead r 0 list (whole_at s list) → X
      go (reader.read held) w v = done_refused (0 + length held) f (sym (sym g ∙ ap (λ (z : Filling × List ℕ). z.0) (d ∙ v)))
      go (reader.refused m p) w v = done_refused k (fault m p) (sym e ∙ is-counted ∙ w)

-- ---- an empty part at the list's end

nothing : (l : List ℕ) → length l ≡ 0 → l ≡ []
nothing [] e = refl
nothing (x ∷ l) e = absurd (omega arith)

module _ (s list : List ℕ) where
  none : length list - length list ≡ 0
  none = omega arith

  pub count-is : (r : Filling) (part : List ℕ) → (r, part) ≡ whole_at s (mid_of (length list) (length list - length list) list)
      → length (put_mid (length list) (length list - length list) list part) ≡ length list
      → (r, put_mid (length list) (length list - length list) list part) ≡ count_at s list
  unfolding count_at
  count-is r part e n =
      let rest = drop (length list - length list) (drop (length list) list) in
      let p : length part ≡ 0 = omega (
        arith,
        n,
        length-append (take (length list) list) (part ++ rest),
        length-append part rest,
        length-take-le (length list) list (omega arith),
      ) in
      let o : take (length list) list ++ (part ++ rest) ≡ list = rw (nothing part p, none) (take-append-drop (length list) list) in
      let x : r ≡ (whole_at s []).0 = ap (λ (z : Filling × List ℕ). z.0) e ∙ ap (λ k. (whole_at s (take k (drop (length list) list))).0) none in
      (λ i. (x i, o i))
