-- Fields and bodies by the levels that may still be opened, with the steps laid down so far.
use Rattle.std.specs.Prelude.{ℕ, zero, suc, ◌+◌, ◌-◌, ◌≤◌, ◌<◌, cond, List, ltb, Result, Ok, Err}
use Rattle.visit.specs.declared.Place.{Place}
use Rattle.visit.specs.declared.Place.TheVariants as place
use Rattle.visit.specs.declared.Fault.{Fault}
use Rattle.visit.specs.Answers.{fault}
use Rattle.visit.specs.declared.Step.TheVariants.{Open, Close}
use Rattle.visit_step.specs.Places.{laid}
use Rattle.visit_field.specs.Front.{front_at}
use Rattle.visit_field.specs.declared.Front.{Front}
use Rattle.visit_field.specs.declared.Front.TheVariants as front
use Rattle.paper.specs.Numbers as no
use Rattle.visit_read.specs.declared.Field.{Field}
use Rattle.visit_read.specs.declared.Field.TheVariants as field
use Rattle.visit_read.specs.Slots.{Filling, slot_by}

-- a field read, or why it is not
abbrev pub FieldRead : Type 0
FieldRead = Result Field Fault

-- a reader of fields, by place, offset and the steps so far
abbrev pub Fields : Type 0
Fields = Place → ℕ → ℕ → List ℕ → FieldRead × List ℕ

-- a group is closed behind what it holds
abbrev pub close_by : ℕ → Filling → List ℕ → FieldRead × List ℕ
close_by next (Ok k) list = (Ok (field.Group next (k + 1)), laid Close k list)
close_by next (Err f) list = (Err f, list)

abbrev pub close_after : ℕ → Filling × List ℕ → FieldRead × List ℕ
close_after next x = close_by next x.0 x.1

abbrev pub on_front : Result Front Fault → List ℕ → (ℕ → FieldRead × List ℕ) → FieldRead × List ℕ
on_front (Ok (front.Group next)) list g = g next
on_front (Ok (front.Told a next)) list g = (Ok (field.Told a next), list)
on_front (Err f) list g = (Err f, list)

-- the groups up to the end, at most `fuel` of them
abbrev pub walk_by : (ℕ → ℕ → List ℕ → Filling × List ℕ) → FieldRead → List ℕ → Filling × List ℕ
walk_by w (Ok (field.Group next k)) list = w next k list
walk_by w (Ok (field.Told a next)) list = (Err (fault no.tag_out_of_place next), list)
walk_by w (Err f) list = (Err f, list)

abbrev pub walk_after : (ℕ → ℕ → List ℕ → Filling × List ℕ) → FieldRead × List ℕ → Filling × List ℕ
walk_after w x = walk_by w x.0 x.1

unfoldable pub walk_at : Fields → ℕ → ℕ → ℕ → ℕ → List ℕ → Filling × List ℕ
walk_at f zero end i k list = (Ok k, list)
walk_at f (suc fuel) end i k list =
    cond (ltb i end) (walk_after (λ i k list. walk_at f fuel end i k list) (f place.Group i k list)) (Ok k, list)

abbrev pub body_by : Fields → List ℕ → ℕ → ℕ → FieldRead → List ℕ → Filling × List ℕ
body_by f s end k (Ok (field.Group next l)) list = walk_at f (end - next) end next l list
body_by f s end k (Ok (field.Told a next)) list = slot_by s end a next k list
body_by f s end k (Err why) list = (Err why, list)

abbrev pub body_after : Fields → List ℕ → ℕ → ℕ → FieldRead × List ℕ → Filling × List ℕ
body_after f s end k x = body_by f s end k x.0 x.1

unfoldable pub body_at : Fields → List ℕ → ℕ → ℕ → ℕ → List ℕ → Filling × List ℕ
body_at f s end at k list = body_after f s end k (f place.First at k list)

unfoldable pub field_at : ℕ → List ℕ → ℕ → Fields
field_at zero s end p at k list = on_front (front_at p s end at) list (λ next. (Err (fault no.too_deep at), list))
field_at (suc l) s end p at k list =
    on_front (front_at p s end at) list
    (λ next. close_after next (body_at (field_at l s next) s next (at + 3) (k + 1) (laid Open k list)))

-- ---- what a reader moves by: no more steps are laid down than bytes are passed

abbrev pub Passes : ℕ → ℕ → ℕ → FieldRead → Type 0
Passes at end k (Ok (field.Group next l)) = (at < next) × ((next ≤ end) × (l + at ≤ k + next))
Passes at end k (Ok (field.Told a next)) = (at + 3 ≤ next) × (next ≤ end)
Passes at end k (Err f) = Unit

abbrev pub Ends : ℕ → ℕ → ℕ → Filling → Type 0
Ends at end k (Ok l) = l + at ≤ k + end
Ends at end k (Err f) = Unit
