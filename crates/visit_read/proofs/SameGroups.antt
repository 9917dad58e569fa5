-- The reader over places reads of fields and bodies what the reader over lists of bytes reads.
use Prim.Native.Nat.{ℕ, zero, suc, ◌+◌, ◌-◌, ◌≤◌}
use mathlib.Core.Bool.{Bool, true, false, cond}
use mathlib.Core.List.{List, [], ◌∷◌, ◌++◌}
use mathlib.Core.Path.{◌≡◌, refl, ap, sym, subst, ◌∙◌}
use native.Mathlib.Omega.{arith}
use borrow.Author.Tests.{ltb-true, ltb-false}
use lib.Dec.{ltb}
use lib.ListN.{length, length-append}
use lib.Seq.{slice, slice_empty, length-slice}
use Rattle.visit.specs.declared.Place.{Place}
use Rattle.visit.specs.declared.Place.TheVariants as place
use Rattle.std.specs.Prelude.{Result, Ok, Err}
use Rattle.visit.specs.declared.Fault.{Fault}
use Rattle.visit.specs.Answers.{fault}
use Rattle.visit.specs.declared.Step.{Step}
use Rattle.visit.specs.declared.Step.TheVariants.{Open, Close}
use Rattle.visit.specs.Reader as reader
use Rattle.visit_step.specs.Places.{laid}
use Rattle.visit_field.specs.declared.Front.{Front}
use Rattle.visit_field.specs.declared.Front.TheVariants as front
use Rattle.visit_field.specs.Front.{front_at}
use Rattle.visit_field.specs.Same.{spread}
use Rattle.visit_field.proofs.Moves.{Moves, front-moves}
use Rattle.visit_field.proofs.Same.{reads-fronts}
use Rattle.paper.specs.Numbers as no
use Rattle.visit_read.specs.declared.Field.TheVariants as field
use Rattle.visit_read.specs.Slots.{Filling, slot_by}
use Rattle.visit_read.specs.Groups.{FieldRead, Fields, close_by, close_after, on_front, walk_by, walk_after, walk_at, body_by, body_after, body_at, field_at}
use Rattle.visit_read.proofs.Laid.{laid_all, laid-append}
use Rattle.visit_read.proofs.SameSlots.{ShowsRead, ShowsField, answer-same}

-- ---- groups

joined_same : (held : List Step) (r : reader.Read) (k : ℕ) (list : List ℕ) (z : Filling × List ℕ)
    → ShowsRead r (k + length held) (laid_all held k list) z → ShowsRead (reader.joined held r) k list z
joined_same held (reader.read later) k list z e =
    let n : k + length held + length later ≡ k + length (held ++ later) = omega (arith, length-append held later) in
    e ∙ (λ i. (Ok (n i), sym (laid-append held later k list) i))
joined_same held (reader.refused n o) k list z e = e

module _ (s : List ℕ) (end : ℕ) (b : end ≤ length s) where
  group-same : (at : ℕ) (x : reader.Field) (k : ℕ) (list : List ℕ) (y : FieldRead × List ℕ) (W : List ℕ → ℕ → reader.Read) (w : ℕ → ℕ → List ℕ → Filling × List ℕ)
      → ShowsField s end at x k list y
      → ((next l : ℕ) (list : List ℕ) → at + 3 ≤ next → next ≤ end → ShowsRead (W (slice next end s) next) l list (w next l list))
      → ShowsRead (reader.on_group x W) k list (walk_after w y)
  group-same at (reader.grouped held rest next) k list y W w (h) f =
      subst (λ (z : FieldRead × List ℕ). ShowsRead (reader.joined held (W rest next)) k list (walk_after w z)) (sym h.0)
      (joined_same held (W rest next) k list (w next (k + length held) (laid_all held k list))
      (subst (λ x. ShowsRead (W x next) (k + length held) (laid_all held k list) (w next (k + length held) (laid_all held k list))) (sym h.1.0)
      (f next (k + length held) (laid_all held k list) h.1.1.0 h.1.1.1)))
  group-same at (reader.answered a rest next) k list y W w h f = ap (λ (z : FieldRead × List ℕ). (walk_after w z).0) h.0
  group-same at (reader.bad n o) k list y W w h f = ap (λ (z : FieldRead). (walk_by w z y.1).0) h

  walk-cons : (f : Place → List ℕ → ℕ → reader.Field) (fuel : ℕ) (l : List ℕ) (at : ℕ) → 1 ≤ length l
      → reader.walk f (suc fuel) l at ≡ reader.on_group (f place.Group l at) (λ s at. reader.walk f fuel s at)
  unfolding reader.walk
  walk-cons f fuel [] at h = absurd (omega arith)
  walk-cons f fuel (x ∷ l) at h = refl

  walk_none : (f : Place → List ℕ → ℕ → reader.Field) (fuel at : ℕ) → reader.walk f fuel [] at ≡ reader.read []
  unfolding reader.walk
  walk_none f zero at = refl
  walk_none f (suc fuel) at = refl

  module _ (F : Place → List ℕ → ℕ → reader.Field) (f : Fields)
      (known : (p : Place) (at k : ℕ) (list : List ℕ) → at ≤ end → ShowsField s end at (F p (slice at end s) at) k list (f p at k list)) where
    at-end : (fuel i k : ℕ) (list : List ℕ) → i ≡ end → ShowsRead (reader.walk F fuel (slice i end s) i) k list (Ok k, list)
    unfolding laid_all
    at-end fuel i k list z =
        let n : k ≡ k + 0 = omega arith in
        subst (λ x. ShowsRead x k list (Ok k, list)) (sym (ap (λ j. reader.walk F fuel (slice j end s) i) z ∙ ap (λ x. reader.walk F fuel x i) (slice_empty end s) ∙ walk_none F fuel i))
        (λ i. (Ok (n i), list))

    walk_same : (fuel i k : ℕ) (list : List ℕ) → i ≤ end → end - i ≤ fuel → ShowsRead (reader.walk F fuel (slice i end s) i) k list (walk_at f fuel end i k list)
    unfolding walk_at
    walk_same zero i k list h g = at-end zero i k list (omega arith)
    walk_same (suc fuel) i k list h g = go (ltb i end) refl (λ next l list m e. walk_same fuel next l list e (omega arith))
      where
        go : (t : Bool) → ltb i end ≡ t
            → ((next l : ℕ) (list : List ℕ) → i + 3 ≤ next → next ≤ end → ShowsRead (reader.walk F fuel (slice next end s) next) l list (walk_at f fuel end next l list))
            → ShowsRead (reader.walk F (suc fuel) (slice i end s) i) k list
            (cond t (walk_after (λ i k list. walk_at f fuel end i k list) (f place.Group i k list)) (Ok k, list))
        go true e r =
            subst (λ x. ShowsRead x k list (walk_after (λ i k list. walk_at f fuel end i k list) (f place.Group i k list)))
            (sym (walk-cons F fuel (slice i end s) i (omega (arith, length-slice i end s b, ltb-true i end e))))
            (group-same i (F place.Group (slice i end s) i) k list (f place.Group i k list) (λ s at. reader.walk F fuel s at) (λ i k list. walk_at f fuel end i k list) (known place.Group i k list h) r)
        go false e r = at-end (suc fuel) i k list (omega (arith, ltb-false i end e))

    body-from : (at : ℕ) (x : reader.Field) (k : ℕ) (list : List ℕ) (y : FieldRead × List ℕ) → ShowsField s end at x k list y
        → ShowsRead (reader.body_from F x) k list (body_after f s end k y)
    unfolding reader.body_from
    body-from at (reader.grouped held rest next) k list y h =
        let l = k + length held in
        let o = laid_all held k list in
        let n : length (slice next end s) ≡ end - next = length-slice next end s b in
        subst (λ (z : FieldRead × List ℕ). ShowsRead (reader.joined held (reader.walk F (length rest) rest next)) k list (body_after f s end k z)) (sym h.0)
        (joined_same held (reader.walk F (length rest) rest next) k list (walk_at f (end - next) end next l o)
        (subst (λ x. ShowsRead (reader.walk F (length x) x next) l o (walk_at f (end - next) end next l o)) (sym h.1.0)
        (subst (λ x. ShowsRead (reader.walk F x (slice next end s) next) l o (walk_at f (end - next) end next l o)) (sym n)
        (walk_same (end - next) next l o h.1.1.1 (omega arith)))))
    body-from at (reader.answered a rest next) k list y h =
        subst (λ (z : FieldRead × List ℕ). ShowsRead (reader.body_from F (reader.answered a rest next)) k list (body_after f s end k z)) (sym h.0)
        (subst (λ x. ShowsRead (reader.body_from F (reader.answered a x next)) k list (slot_by s end a next k list)) (sym h.1.0) (answer-same s end b a next k list F h.1.1.1))
    body-from at (reader.bad n o) k list y h = ap (λ (z : FieldRead). (body_by f s end k z y.1).0) h

    body_same : (at k : ℕ) (list : List ℕ) → at ≤ end → ShowsRead (reader.body_of F (slice at end s) at) k list (body_at f s end at k list)
    unfolding body_at
    body_same at k list h = body-from at (F place.First (slice at end s) at) k list (f place.First at k list) (known place.First at k list h)

-- ---- a field

close-same : (s : List ℕ) (end at next k : ℕ) (list : List ℕ) (r : reader.Read) (z : Filling × List ℕ) → at + 3 ≤ next → next ≤ end
    → ShowsRead r (k + 1) (laid Open k list) z → ShowsField s end at (reader.framed_steps r (slice next end s) next) k list (close_after next z)
unfolding laid_all
close-same s end at next k list (reader.read held) z m e h =
    let n : k + 1 + length held + 1 ≡ k + suc (length (held ++ (Close ∷ []))) = omega (arith, length-append held (Close ∷ [])) in (
      ap (close_after next) h ∙ (λ i. (Ok (field.Group next (n i)), sym (laid-append held (Close ∷ []) (k + 1) (laid Open k list)) i)),
      (refl, (m, e)),
    )
close-same s end at next k list (reader.refused n o) z m e h = ap (λ (x : Filling). (close_by next x z.1).0) h

front-field : (s : List ℕ) (end at k : ℕ) (list : List ℕ) (x : Result Front Fault) (inner : List ℕ → reader.Read) (g : ℕ → FieldRead × List ℕ) → Moves at end x
    → ((next : ℕ) → at + 3 ≤ next → next ≤ end → ShowsField s end at (reader.framed_steps (inner (slice (at + 3) next s)) (slice next end s) next) k list (g next))
    → ShowsField s end at (reader.field_from inner (spread s end at x)) k list (on_front x list g)
unfolding reader.field_from
front-field s end at k list (Ok (front.Group next)) inner g m h = h next m.0 m.1
front-field s end at k list (Ok (front.Told a next)) inner g m h = (refl, (refl, m))
front-field s end at k list (Err f) inner g m h = refl

pub field-same : (l : ℕ) (s : List ℕ) (end : ℕ) → end ≤ length s → (p : Place) (at k : ℕ) (list : List ℕ) → at ≤ end
    → ShowsField s end at (reader.field_of l p (slice at end s) at) k list (field_at l s end p at k list)
unfolding reader.field_of field_at
field-same zero s end b p at k list h =
    let inner : List ℕ → reader.Read = λ body. reader.refused no.too_deep at in
    let g : ℕ → FieldRead × List ℕ = λ next. (Err (fault no.too_deep at), list) in
    subst (λ x. ShowsField s end at (reader.field_from inner x) k list (on_front (front_at p s end at) list g)) (sym (reads-fronts p s end at h b))
    (front-field s end at k list (front_at p s end at) inner g (front-moves p s end at) (λ next m e. refl))
field-same (suc l) s end b p at k list h =
    let inner : List ℕ → reader.Read = λ body. reader.body_of (reader.field_of l) body (at + 3) in
    let g : ℕ → FieldRead × List ℕ = λ next. close_after next (body_at (field_at l s next) s next (at + 3) (k + 1) (laid Open k list)) in
    subst (λ x. ShowsField s end at (reader.field_from inner x) k list (on_front (front_at p s end at) list g)) (sym (reads-fronts p s end at h b))
    (front-field s end at k list (front_at p s end at) inner g (front-moves p s end at)
    (λ next m e. close-same s end at next k list (inner (slice (at + 3) next s)) (body_at (field_at l s next) s next (at + 3) (k + 1) (laid Open k list)) m e
    (body_same s next (omega arith) (reader.field_of l) (field_at l s next) (λ p at k list h. field-same l s next (omega arith) p at k list h) (at + 3) (k + 1) (laid Open k list) m)))
