-- What the reader accepts is spelled by a valid tree.
use Prim.Native.Nat.{ℕ, zero, suc, ◌+◌}
use mathlib.Core.List.{List, [], ◌∷◌, ◌++◌, append-nil}
use mathlib.Core.Path.{◌≡◌, refl, sym, ap, subst, ◌∙◌}
use lib.ListN.{length}
use Rattle.std.specs.Prelude.{Ok, Err}
use Rattle.visit.specs.declared.Place.{Place}
use Rattle.visit.specs.declared.Place.TheVariants as place
use Rattle.visit.specs.Tags as tag
use Rattle.visit.specs.Steps.{Answer, value, Step, slot, around}
use Rattle.visit.specs.Tree.{Reading, exact, pascals, gone, Group, Groups, of_slot, of_groups, none, more, Within, Valid, AllValid, reading_bytes, framed, inside, in_all}
use Rattle.visit.specs.Tree.{encode, Bytes, answer_of, steps_in, steps_in_all, steps_of}
use Rattle.visit.specs.Reader.{Front, holding, telling, failing, front, Field, grouped, answered, bad, field_from, Read, read, refused, framed_steps, ended, joined}
use Rattle.visit.specs.Reader.{on_answer, slot_of, on_group, walk, body_from, body_of, field_of, record_from, read_record}
use Rattle.visit.proofs.Apart.{apart}
use Rattle.visit.proofs.Bytes.{bytes-right}
use Rattle.visit.proofs.Reading.{inner_of, field_is}
use Rattle.visit.proofs.Fronts.{answer-from, framed-from}

-- ---- a field goes back to its front

field-answer : (inner : List ℕ → Read) (x : Front) (a : Answer) (rest : List ℕ) (next : ℕ) → field_from inner x ≡ answered a rest next → x ≡ telling a rest next
unfolding field_from
field-answer inner (holding body rest next) a rest' next' e = go (inner body) e
  where
    go : (r : Read) → framed_steps r rest next ≡ answered a rest' next' → holding body rest next ≡ telling a rest' next'
    go (read held) e = apart (cc)
    go (refused n o) e = apart (cc)
field-answer inner (telling a rest next) b rest' next' e = cc
field-answer inner (failing n o) a rest next e = apart (cc)

pub record Grouped (inner : List ℕ → Read) (x : Front) (held : List Step) (rest : List ℕ) (next : ℕ) : Type 0 where
  pub body : List ℕ
  pub steps : List Step
  pub given : inner body ≡ read steps
  pub held-is : held ≡ around steps
  pub front-is : x ≡ holding body rest next

field-group : (inner : List ℕ → Read) (x : Front) (held : List Step) (rest : List ℕ) (next : ℕ) → field_from inner x ≡ grouped held rest next → Grouped inner x held rest next
unfolding field_from
field-group inner (holding body rest next) held rest' next' e = go (inner body) refl e
  where
    go : (r : Read) → inner body ≡ r → framed_steps r rest next ≡ grouped held rest' next' → Grouped inner (holding body rest next) held rest' next'
    go (read steps) f e = record { body = body; steps = steps; given = f; held-is = cc; front-is = cc }
    go (refused n o) f e = apart (cc)
field-group inner (telling a rest next) held rest' next' e = apart (cc)
field-group inner (failing n o) held rest next e = apart (cc)

-- ---- what a step of a body goes back to

ended-from : (held : List Step) (s : List ℕ) (at : ℕ) (got : List Step) → ended held s at ≡ read got → (s ≡ []) × (got ≡ held)
ended-from held [] at got e = (refl, cc)
ended-from held (b ∷ s) at got e = apart (cc)

on-answer : (x : Front) (k : Answer → List ℕ → ℕ → Read) (got : List Step) → on_answer x k ≡ read got
    → (a : Answer) × (rest : List ℕ) × (next : ℕ) × (x ≡ telling a rest next) × (k a rest next ≡ read got)
on-answer (holding body rest next) k got e = apart (cc)
on-answer (telling a rest next) k got e = (a, rest, next, refl, e)
on-answer (failing n o) k got e = apart (cc)

joined-from : (held : List Step) (r : Read) (got : List Step) → joined held r ≡ read got → (later : List Step) × (r ≡ read later) × (got ≡ held ++ later)
joined-from held (read later) got e = (later, refl, cc)
joined-from held (refused n o) got e = apart (cc)

on-group : (x : Field) (k : List ℕ → ℕ → Read) (got : List Step) → on_group x k ≡ read got
    → (held : List Step) × (rest : List ℕ) × (next : ℕ) × (later : List Step) × (x ≡ grouped held rest next) × (k rest next ≡ read later) × (got ≡ held ++ later)
on-group (grouped held rest next) k got e = let j = joined-from held (k rest next) got e in (held, rest, next, j.0, refl, j.1, j.2)
on-group (answered a rest next) k got e = apart (cc)
on-group (bad n o) k got e = apart (cc)

-- ---- a slot

pub record Slot (time : ℕ) (s : List ℕ) (got : List Step) : Type 0 where
  pub t : Reading
  pub p : Reading
  pub h : Reading
  pub within : Within place.Temperature t × (Within place.Pressure p × Within place.Humidity h)
  pub bytes : s ≡ reading_bytes place.Temperature t ++ (reading_bytes place.Pressure p ++ reading_bytes place.Humidity h)
  pub steps : got ≡ slot time (answer_of t) (answer_of p) (answer_of h) ∷ []

left-bytes : (p : Place) (r : Reading) (s rest : List ℕ) → Bytes s → s ≡ reading_bytes p r ++ rest → Bytes rest
left-bytes p r s rest b e = bytes-right (reading_bytes p r) rest (subst Bytes e b)

pub slot-from : (time : ℕ) (s : List ℕ) (at : ℕ) (got : List Step) → Bytes s → slot_of time s at ≡ read got → Slot time s got
unfolding slot_of
slot-from time s at got b e =
    let x = on-answer (front place.Temperature s at) _ got e in
    let t = answer-from place.Temperature s at x.0 x.1 x.2 b x.3 in
    let b₁ = left-bytes place.Temperature t.reading s x.1 b t.bytes in
    let y = on-answer (front place.Pressure x.1 x.2) _ got x.4 in
    let p = answer-from place.Pressure x.1 x.2 y.0 y.1 y.2 b₁ y.3 in
    let b₂ = left-bytes place.Pressure p.reading x.1 y.1 b₁ p.bytes in
    let z = on-answer (front place.Humidity y.1 y.2) _ got y.4 in
    let h = answer-from place.Humidity y.1 y.2 z.0 z.1 z.2 b₂ z.3 in
    let end = ended-from (slot time x.0 y.0 z.0 ∷ []) z.1 z.2 got z.4 in
    let last : y.1 ≡ reading_bytes place.Humidity h.reading = h.bytes ∙ ap (λ r. reading_bytes place.Humidity h.reading ++ r) end.0 ∙ append-nil _ in
    record {
      t = t.reading;
      p = p.reading;
      h = h.reading;
      within = (t.within, (p.within, h.within));
      bytes = t.bytes ∙ ap (λ r. reading_bytes place.Temperature t.reading ++ r) (p.bytes ∙ ap (λ r. reading_bytes place.Pressure p.reading ++ r) last);
      steps = end.1 ∙ (λ i. slot time (t.answer i) (p.answer i) (h.answer i) ∷ []);
    }

-- ---- bodies, by levels

pub record Body (l : ℕ) (s : List ℕ) (got : List Step) : Type 0 where
  pub group : Group
  pub valid : Valid group l
  pub bytes : s ≡ inside group
  pub steps : got ≡ steps_in group

pub record Walked (l : ℕ) (s : List ℕ) (got : List Step) : Type 0 where
  pub groups : Groups
  pub valid : AllValid groups l
  pub bytes : s ≡ in_all groups
  pub steps : got ≡ steps_in_all groups

-- a first answer in a body is its slot's time
first-is-time : (r : Reading) (time : ℕ) → Within place.First r → value time ≡ answer_of r → r ≡ exact time
first-is-time (exact v) time w e = cc
first-is-time (pascals v) time w e = (let z = w.0 in apart (cc))
first-is-time (gone n) time w e = (let z = w.0 in apart (cc))

time-from : (l : ℕ) (s : List ℕ) (at : ℕ) (a : Answer) (rest : List ℕ) (next : ℕ) (got : List Step) → Bytes s → field_of l place.First s at ≡ answered a rest next
    → body_from (field_of l) (answered a rest next) ≡ read got → Body l s got
unfolding body_from inside steps_in
time-from l s at (Err a) rest next got b f e = apart (cc)
time-from l s at (Ok time) rest next got b f e =
    let x = answer-from place.First s at (value time) rest next b (field-answer (inner_of l at) (front place.First s at) (value time) rest next (sym (field_is l place.First s at) ∙ f)) in
    let r = first-is-time x.reading time x.within x.answer in
    let y = slot-from time rest next got (left-bytes place.First x.reading s rest b x.bytes) e in
    record {
      group = of_slot time y.t y.p y.h;
      valid = (subst (Within place.First) r x.within, y.within);
      bytes = x.bytes ∙ (λ i. reading_bytes place.First (r i) ++ y.bytes i);
      steps = y.steps;
    }

-- the fields of a body under which l levels may stand, where the bodies of their groups are known
module _ (l : ℕ) (known : (s : List ℕ) (at : ℕ) (got : List Step) → Bytes s → body_of (field_of l) s at ≡ read got → Body l s got) where
  pub record Held (s : List ℕ) (held : List Step) (rest : List ℕ) : Type 0 where
    pub group : Group
    pub valid : Valid group l
    pub bytes : s ≡ encode group ++ rest
    pub steps : held ≡ steps_of group

  held-from : (p : Place) (s : List ℕ) (at : ℕ) (held : List Step) (rest : List ℕ) (next : ℕ) → Bytes s → field_of (suc l) p s at ≡ grouped held rest next → Held s held rest
  held-from p s at held rest next b e =
      let g = field-group (inner_of (suc l) at) (front p s at) held rest next (sym (field_is (suc l) p s at) ∙ e) in
      let f = framed-from p s at g.body rest next b g.front-is in
      let k = known g.body (at + 3) g.steps f.are-bytes g.given in
      record {
        group = k.group;
        valid = k.valid;
        bytes = f.bytes ∙ ap (λ x. framed x ++ rest) k.bytes;
        steps = g.held-is ∙ ap around k.steps;
      }

  walk_from : (fuel : ℕ) (s : List ℕ) (at : ℕ) (got : List Step) → Bytes s → walk (field_of (suc l)) fuel s at ≡ read got → Walked l s got
  unfolding walk inside steps_in
  walk_from zero [] at got b e = record { groups = none; valid = tt; bytes = refl; steps = cc }
  walk_from zero (c ∷ s) at got b e = apart (cc)
  walk_from (suc fuel) [] at got b e = record { groups = none; valid = tt; bytes = refl; steps = cc }
  walk_from (suc fuel) (c ∷ s) at got b e =
      let x = on-group (field_of (suc l) place.Group (c ∷ s) at) (λ s at. walk (field_of (suc l)) fuel s at) got e in
      let h = held-from place.Group (c ∷ s) at x.0 x.1 x.2 b x.4 in
      let w = walk_from fuel x.1 x.2 x.3 (bytes-right (encode h.group) x.1 (subst Bytes h.bytes b)) x.5 in
      record {
        groups = more h.group w.groups;
        valid = (h.valid, w.valid);
        bytes = h.bytes ∙ ap (λ r. encode h.group ++ r) w.bytes;
        steps = x.6 ∙ (λ i. h.steps i ++ w.steps i);
      }

  groups-from : (s : List ℕ) (at : ℕ) (held : List Step) (rest : List ℕ) (next : ℕ) (got : List Step) → Bytes s → field_of (suc l) place.First s at ≡ grouped held rest next
      → body_from (field_of (suc l)) (grouped held rest next) ≡ read got → Body (suc l) s got
  unfolding body_from inside steps_in
  groups-from s at held rest next got b f e =
      let j = joined-from held (walk (field_of (suc l)) (length rest) rest next) got e in
      let h = held-from place.First s at held rest next b f in
      let w = walk_from (length rest) rest next j.0 (bytes-right (encode h.group) rest (subst Bytes h.bytes b)) j.1 in
      record {
        group = of_groups h.group w.groups;
        valid = (h.valid, w.valid);
        bytes = h.bytes ∙ ap (λ r. encode h.group ++ r) w.bytes;
        steps = j.2 ∙ (λ i. h.steps i ++ w.steps i);
      }

-- by what the first field was
first-from : (l : ℕ) (s : List ℕ) (at : ℕ) (got : List Step) → Bytes s
    → ((held : List Step) (rest : List ℕ) (next : ℕ) → field_of l place.First s at ≡ grouped held rest next → body_from (field_of l) (grouped held rest next) ≡ read got → Body l s got)
    → body_of (field_of l) s at ≡ read got → Body l s got
unfolding body_from
first-from l s at got b groups e = go (field_of l place.First s at) refl e
  where
    go : (x : Field) → field_of l place.First s at ≡ x → body_from (field_of l) x ≡ read got → Body l s got
    go (grouped held rest next) f e = groups held rest next f e
    go (answered a rest next) f e = time-from l s at a rest next got b f e
    go (bad n o) f e = apart (cc)

pub body-from : (l : ℕ) (s : List ℕ) (at : ℕ) (got : List Step) → Bytes s → body_of (field_of l) s at ≡ read got → Body l s got
body-from zero s at got b e =
    first-from zero s at got b no-group e
  where
    no-group : (held : List Step) (rest : List ℕ) (next : ℕ) → field_of zero place.First s at ≡ grouped held rest next
        → body_from (field_of zero) (grouped held rest next) ≡ read got → Body zero s got
    no-group held rest next f e =
        let z = (field-group (inner_of zero at) (front place.First s at) held rest next (sym (field_is zero place.First s at) ∙ f)).given in
        apart (cc)
body-from (suc l) s at got b e =
    first-from (suc l) s at got b (λ held rest next f e. groups-from l (body-from l) s at held rest next got b f e) e

-- ---- a record

pub record Spelled (s : List ℕ) (got : List Step) : Type 0 where
  pub group : Group
  pub valid : Valid group 3
  pub bytes : s ≡ encode group
  pub steps : got ≡ steps_of group

pub record-from : (s : List ℕ) (got : List Step) → Bytes s → read_record s ≡ read got → Spelled s got
unfolding read_record record_from
record-from s got b e = from (field_of tag.levels place.Group s 0) refl e
  where
    from : (x : Field) → field_of tag.levels place.Group s 0 ≡ x → record_from x ≡ read got → Spelled s got
    from (grouped held rest next) f e =
        let n = ended-from held rest next got e in
        let h = held-from 3 (body-from 3) place.Group s 0 held rest next b f in
        record {
          group = h.group;
          valid = h.valid;
          bytes = h.bytes ∙ ap (λ r. encode h.group ++ r) n.0 ∙ append-nil _;
          steps = n.1 ∙ h.steps;
        }
    from (answered a rest next) f e = apart (cc)
    from (bad n o) f e = apart (cc)
