-- A refusal's number is one of 18 to 22, and so never 0.
use Prim.Native.Nat.{ℕ, zero, suc, ◌+◌, ◌*◌, ◌≤◌}
use native.Mathlib.Omega.{arith}
use mathlib.Core.Bool.{Bool}
use mathlib.Core.List.{List, [], ◌∷◌}
use lib.Dec.{eqb, ltb}
use lib.ListN.{length, take, drop}
use Rattle.std.specs.Prelude.{Ok, Err}
use Rattle.laws.specs.Choices.{pick}
use Rattle.visit.specs.declared.Place.{Place}
use Rattle.visit.specs.declared.Place.TheVariants as place
use Rattle.visit.specs.declared.Kind.{Kind}
use Rattle.visit.specs.declared.Kind.TheVariants as kind
use Rattle.visit.specs.declared.Holds.TheVariants as holds
use Rattle.visit.specs.declared.Stage.{Stage}
use Rattle.visit.specs.declared.Stage.TheVariants as stage
use Rattle.visit.specs.Steps.{Answer, Step, opened, slot, slotted, closed, stray}
use Rattle.visit.specs.Tags as tag
use Rattle.visit.specs.Reader.{kind_of, Front, holding, telling, failing, front, Field, grouped, answered, bad, field_from, Read, read, refused, taken, framed_steps, by_kind}
use Rattle.visit.specs.Reader.{ended, joined, on_answer, slot_of, on_group, walk, body_from, body_of, field_of, record_from, read_record}
use Rattle.visit.specs.Writer.{Turn, slot_fits, deeper, turn, Checked, fine, wrong, at_end, go_on, checked}

abbrev Fault : ℕ → Type 0
Fault n = (18 ≤ n) × (n ≤ 22)

-- ---- reading

abbrev FrontFault : Front → Type 0
FrontFault (holding body rest next) = Unit
FrontFault (telling a rest next) = Unit
FrontFault (failing n o) = Fault n

abbrev FieldFault : Field → Type 0
FieldFault (grouped held rest next) = Unit
FieldFault (answered a rest next) = Unit
FieldFault (bad n o) = Fault n

abbrev pub ReadFault : Read → Type 0
ReadFault (read held) = Unit
ReadFault (refused n o) = Fault n

taken-fault : (n size : ℕ) (within : Bool) (a : Answer) (rest : List ℕ) (at : ℕ) → FrontFault (taken n size within a rest at)
unfolding taken
taken-fault n size within a rest at =
    pick FrontFault (eqb n size) (λ e. pick FrontFault within (λ e. tt) (λ e. omega arith)) (λ e. omega arith)

kind-fault : (p : Place) (k : Kind) (n : ℕ) (body rest : List ℕ) (at : ℕ) → FrontFault (by_kind p k n body rest at)
unfolding by_kind
kind-fault p kind.Group n body rest at = tt
kind-fault p kind.Value n body rest at = taken-fault n 4 _ _ rest at
kind-fault p kind.Pascals n body rest at = taken-fault n 4 _ _ rest at
kind-fault p kind.Missing n body rest at = taken-fault n 2 _ _ rest at
kind-fault p kind.Strange n body rest at = omega arith

front-fault : (p : Place) (s : List ℕ) (at : ℕ) → FrontFault (front p s at)
unfolding front
front-fault p [] at = omega arith
front-fault p (t ∷ []) at = omega arith
front-fault p (t ∷ high ∷ []) at = omega arith
front-fault p (t ∷ high ∷ low ∷ after) at =
    let n = high * 256 + low in
    pick FrontFault (ltb (length after) n) (λ e. omega arith) (λ e. kind-fault p (kind_of p t) n (take n after) (drop n after) at)

field-fault : (inner : List ℕ → Read) → ((body : List ℕ) → ReadFault (inner body)) → (x : Front) → FrontFault x → FieldFault (field_from inner x)
unfolding field_from
field-fault inner h (holding body rest next) f = framed (inner body) (h body)
  where
    framed : (r : Read) → ReadFault r → FieldFault (framed_steps r rest next)
    framed (read held) f = tt
    framed (refused n o) f = f
field-fault inner h (telling a rest next) f = tt
field-fault inner h (failing n o) f = f

ended-fault : (held : List Step) (s : List ℕ) (at : ℕ) → ReadFault (ended held s at)
ended-fault held [] at = tt
ended-fault held (b ∷ s) at = omega arith

joined-fault : (held : List Step) (r : Read) → ReadFault r → ReadFault (joined held r)
joined-fault held (read later) h = tt
joined-fault held (refused n o) h = h

answer-fault : (x : Front) (k : Answer → List ℕ → ℕ → Read) → FrontFault x → ((a : Answer) (s : List ℕ) (at : ℕ) → ReadFault (k a s at)) → ReadFault (on_answer x k)
answer-fault (holding body rest next) k f h = omega arith
answer-fault (telling a rest next) k f h = h a rest next
answer-fault (failing n o) k f h = f

slot-fault : (time : ℕ) (s : List ℕ) (at : ℕ) → ReadFault (slot_of time s at)
unfolding slot_of
slot-fault time s at =
    answer-fault (front place.Temperature s at) _ (front-fault place.Temperature s at)
    (λ t s at. answer-fault (front place.Pressure s at) _ (front-fault place.Pressure s at)
    (λ p s at. answer-fault (front place.Humidity s at) _ (front-fault place.Humidity s at)
    (λ h s at. ended-fault (slot time t p h ∷ []) s at)))

group-fault : (x : Field) (k : List ℕ → ℕ → Read) → FieldFault x → ((s : List ℕ) (at : ℕ) → ReadFault (k s at)) → ReadFault (on_group x k)
group-fault (grouped held rest next) k f h = joined-fault held (k rest next) (h rest next)
group-fault (answered a rest next) k f h = omega arith
group-fault (bad n o) k f h = f

module _ (f : Place → List ℕ → ℕ → Field) (h : (p : Place) (s : List ℕ) (at : ℕ) → FieldFault (f p s at)) where
  walk-fault : (fuel : ℕ) (s : List ℕ) (at : ℕ) → ReadFault (walk f fuel s at)
  unfolding walk
  walk-fault zero [] at = tt
  walk-fault zero (b ∷ s) at = omega arith
  walk-fault (suc fuel) [] at = tt
  walk-fault (suc fuel) (b ∷ s) at =
      group-fault (f place.Group (b ∷ s) at) (λ s at. walk f fuel s at) (h place.Group (b ∷ s) at) (λ s at. walk-fault fuel s at)

  body-fault : (x : Field) → FieldFault x → ReadFault (body_from f x)
  unfolding body_from
  body-fault (grouped held rest next) g = joined-fault held (walk f (length rest) rest next) (walk-fault (length rest) rest next)
  body-fault (answered (Ok time) rest next) g = slot-fault time rest next
  body-fault (answered (Err a) rest next) g = omega arith
  body-fault (bad n o) g = g

level-fault : (l : ℕ) (p : Place) (s : List ℕ) (at : ℕ) → FieldFault (field_of l p s at)
unfolding field_of
level-fault zero p s at = field-fault (λ body. refused 21 at) (λ body. omega arith) (front p s at) (front-fault p s at)
level-fault (suc l) p s at =
    field-fault (λ body. body_of (field_of l) body (at + 3))
    (λ body. body-fault (field_of l) (level-fault l) (field_of l place.First body (at + 3)) (level-fault l place.First body (at + 3)))
    (front p s at) (front-fault p s at)

pub read-fault : (s : List ℕ) → ReadFault (read_record s)
unfolding read_record record_from
read-fault s = from (field_of tag.levels place.Group s 0) (level-fault tag.levels place.Group s 0)
  where
    from : (x : Field) → FieldFault x → ReadFault (record_from x)
    from (grouped held rest next) h = ended-fault held rest next
    from (answered a rest next) h = omega arith
    from (bad n o) h = h

-- ---- writing

abbrev TurnFault : Turn → Type 0
TurnFault (Ok st) = Unit
TurnFault (Err r) = Fault r.number

abbrev pub CheckedFault : Checked → Type 0
CheckedFault fine = Unit
CheckedFault (wrong n i) = Fault n

deeper-fault : (l : ℕ) → TurnFault (deeper l)
deeper-fault zero = omega arith
deeper-fault (suc l) = tt

turn-fault : (st : Stage) (s : Step) → TurnFault (turn st s)
unfolding turn
turn-fault stage.Start opened = tt
turn-fault stage.Start (slotted s) = omega arith
turn-fault stage.Start closed = omega arith
turn-fault stage.Start stray = omega arith
turn-fault (stage.Open l holds.Nothing) opened = deeper-fault l
turn-fault (stage.Open l holds.Nothing) (slotted s) = pick TurnFault (slot_fits s) (λ e. tt) (λ e. omega arith)
turn-fault (stage.Open l holds.Nothing) closed = omega arith
turn-fault (stage.Open l holds.Nothing) stray = omega arith
turn-fault (stage.Open l holds.Groups) opened = deeper-fault l
turn-fault (stage.Open l holds.Groups) (slotted s) = omega arith
turn-fault (stage.Open l holds.Groups) closed = tt
turn-fault (stage.Open l holds.Groups) stray = omega arith
turn-fault (stage.Open l holds.Slot) opened = omega arith
turn-fault (stage.Open l holds.Slot) (slotted s) = omega arith
turn-fault (stage.Open l holds.Slot) closed = tt
turn-fault (stage.Open l holds.Slot) stray = omega arith
turn-fault stage.Done s = omega arith

end-fault : (st : Stage) (i : ℕ) → CheckedFault (at_end st i)
end-fault stage.Start i = omega arith
end-fault (stage.Open l held) i = omega arith
end-fault stage.Done i = tt

on-fault : (x : Turn) (i : ℕ) (k : Stage → Checked) → TurnFault x → ((st : Stage) → CheckedFault (k st)) → CheckedFault (go_on x i k)
on-fault (Ok st) i k h g = g st
on-fault (Err r) i k h g = h

pub checked-fault : (st : Stage) (ss : List Step) (i : ℕ) → CheckedFault (checked st ss i)
unfolding checked
checked-fault st [] i = end-fault st i
checked-fault st (s ∷ ss) i = on-fault (turn st s) i (λ next. checked next ss (i + 1)) (turn-fault st s) (λ next. checked-fault next ss (i + 1))
