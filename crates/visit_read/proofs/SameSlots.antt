-- The reader over places reads of a slot what the reader over lists of bytes reads.
use Prim.Native.Nat.{ℕ, ◌+◌, ◌≤◌}
use mathlib.Core.Bool.{Bool, true, false, cond}
use mathlib.Core.List.{List, [], ◌∷◌}
use mathlib.Core.Path.{◌≡◌, refl, ap, sym, subst, ◌∙◌}
use native.Mathlib.Omega.{arith}
use borrow.Author.Tests.{ltb-true, ltb-false}
use lib.Dec.{ltb}
use lib.ListN.{length}
use lib.Seq.{slice, slice-cons, slice_empty}
use Rattle.visit.specs.declared.Place.{Place}
use Rattle.visit.specs.declared.Place.TheVariants as place
use Rattle.std.specs.Prelude.{Result, Ok, Err}
use Rattle.visit.specs.declared.Fault.{Fault}
use Rattle.visit.specs.declared.Step.{Step}
use Rattle.visit.specs.Steps.{Answer, slot}
use Rattle.visit.specs.Answers.{fault}
use Rattle.visit.specs.Reader as reader
use Rattle.visit_step.specs.Places.{laid}
use Rattle.visit_field.specs.declared.Front.{Front}
use Rattle.visit_field.specs.declared.Front.TheVariants as front
use Rattle.visit_field.specs.Front.{front_at}
use Rattle.visit_field.specs.Same.{spread}
use Rattle.visit_field.proofs.Moves.{Moves, front-moves}
use Rattle.visit_field.proofs.Same.{reads-fronts}
use Rattle.paper.specs.Numbers as no
use Rattle.visit_read.specs.declared.Field.TheVariants as field
use Rattle.visit_read.specs.Slots.{Filling, told, on_told, slot_at, slot_by}
use Rattle.visit_read.specs.Groups.{FieldRead}
use Rattle.visit_read.proofs.Laid.{laid_all}

-- what the reader over places shows of what the reader over lists reads
abbrev pub ShowsRead : reader.Read → ℕ → List ℕ → Filling × List ℕ → Type 0
ShowsRead (reader.read held) k list y = y ≡ (Ok (k + length held), laid_all held k list)
ShowsRead (reader.refused n o) k list y = y.0 ≡ Err (fault n o)

abbrev pub ShowsField : List ℕ → ℕ → ℕ → reader.Field → ℕ → List ℕ → FieldRead × List ℕ → Type 0
ShowsField s end at (reader.grouped held rest next) k list y =
    (y ≡ (Ok (field.Group next (k + length held)), laid_all held k list)) × ((rest ≡ slice next end s) × ((at + 3 ≤ next) × (next ≤ end)))
ShowsField s end at (reader.answered a rest next) k list y =
    (y ≡ (Ok (field.Told a next), list)) × ((rest ≡ slice next end s) × ((at + 3 ≤ next) × (next ≤ end)))
ShowsField s end at (reader.bad n o) k list y = y.0 ≡ Err (fault n o)

-- ---- a slot

on_same : (x : Result Front Fault) (s : List ℕ) (end at k : ℕ) (list : List ℕ) (K : Answer → List ℕ → ℕ → reader.Read) (G : Answer → ℕ → Filling × List ℕ) → Moves at end x
    → ((a : Answer) (next : ℕ) → at + 3 ≤ next → next ≤ end → ShowsRead (K a (slice next end s) next) k list (G a next))
    → ShowsRead (reader.on_answer (spread s end at x) K) k list (on_told (told x) list G)
on_same (Ok (front.Group next)) s end at k list K G m h = refl
on_same (Ok (front.Told a next)) s end at k list K G m h = h a next m.0 m.1
on_same (Err f) s end at k list K G m h = refl

ended_same : (held : List Step) (s : List ℕ) (end next k : ℕ) (list : List ℕ) (y : Filling × List ℕ) → next ≤ end → end ≤ length s
    → y ≡ (Ok (k + length held), laid_all held k list)
    → ShowsRead (reader.ended held (slice next end s) next) k list (cond (ltb next end) (Err (fault no.tag_out_of_place next), list) y)
ended_same held s end next k list y h b e = go (ltb next end) refl
  where
    go : (t : Bool) → ltb next end ≡ t → ShowsRead (reader.ended held (slice next end s) next) k list (cond t (Err (fault no.tag_out_of_place next), list) y)
    go true f = subst (λ x. ShowsRead (reader.ended held x next) k list (Err (fault no.tag_out_of_place next), list)) (sym (slice-cons next end s 0 (ltb-true next end f) b)) refl
    go false f =
        let z : next ≡ end = omega (arith, ltb-false next end f) in
        subst (λ x. ShowsRead (reader.ended held x next) k list y) (sym (ap (λ i. slice i end s) z ∙ slice_empty end s)) e

module _ (s : List ℕ) (end : ℕ) (b : end ≤ length s) where
  step_same : (p : Place) (at k : ℕ) (list : List ℕ) (K : Answer → List ℕ → ℕ → reader.Read) (G : Answer → ℕ → Filling × List ℕ) → at ≤ end
      → ((a : Answer) (next : ℕ) → at + 3 ≤ next → next ≤ end → ShowsRead (K a (slice next end s) next) k list (G a next))
      → ShowsRead (reader.on_answer (reader.front p (slice at end s) at) K) k list (on_told (told (front_at p s end at)) list G)
  step_same p at k list K G h f =
      subst (λ x. ShowsRead (reader.on_answer x K) k list (on_told (told (front_at p s end at)) list G)) (sym (reads-fronts p s end at h b))
      (on_same (front_at p s end at) s end at k list K G (front-moves p s end at) f)

  slot_same : (time at k : ℕ) (list : List ℕ) → at ≤ end → ShowsRead (reader.slot_of time (slice at end s) at) k list (slot_at s end time at k list)
  unfolding reader.slot_of slot_at laid_all
  slot_same time at k list h =
      step_same place.Temperature at k list _ _ h
      (λ t i m e. step_same place.Pressure i k list _ _ e
      (λ p j m e. step_same place.Humidity j k list _ _ e
      (λ q n m e. ended_same (slot time t p q ∷ []) s end n k list (Ok (k + 1), laid (slot time t p q) k list) e b refl)))

  pub answer-same : (a : Answer) (at k : ℕ) (list : List ℕ) (f : Place → List ℕ → ℕ → reader.Field) → at ≤ end
      → ShowsRead (reader.body_from f (reader.answered a (slice at end s) at)) k list (slot_by s end a at k list)
  unfolding reader.body_from slot_by
  answer-same (Ok time) at k list f h = slot_same time at k list h
  answer-same (Err n) at k list f h = refl
