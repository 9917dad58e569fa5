-- One step of the reader of fields, and one of the walk over the groups of a body.
use Prim.Native.Nat.{ℕ, zero, suc, ◌+◌, ◌-◌, ◌≤◌, ◌<◌}
use mathlib.Core.List.{List}
use mathlib.Core.Path.{◌≡◌, refl}
use native.Mathlib.Omega.{arith}
use borrow.Author.Tests.{lt-ltb, le-ltb}
use Rattle.std.specs.Prelude.{Ok, Err}
use Rattle.visit.specs.declared.Place.{Place}
use Rattle.visit.specs.declared.Place.TheVariants as place
use Rattle.visit.specs.declared.Step.TheVariants.{Open}
use Rattle.visit.specs.Answers.{fault}
use Rattle.visit_step.specs.Places.{laid}
use Rattle.visit_field.specs.Front.{front_at}
use Rattle.paper.specs.Numbers as no
use Rattle.visit_read.specs.declared.Field.{Field}
use Rattle.visit_read.specs.declared.Field.TheVariants as field
use Rattle.visit_read.specs.Groups.{FieldRead, Fields, close_after, on_front, walk_after, walk_at, body_at, field_at}

-- a group under which so many levels may still be opened
module _ (s : List ℕ) (at k : ℕ) (list : List ℕ) (next : ℕ) where
  abbrev pub group_by : ℕ → FieldRead × List ℕ
  group_by zero = (Err (fault no.too_deep at), list)
  group_by (suc l) = close_after next (body_at (field_at l s next) s next (at + 3) (k + 1) (laid Open k list))

  pub group-deeper : (l : ℕ) → (l ≡ 0 → ⊥) → group_by l ≡ close_after next (body_at (field_at (l - 1) s next) s next (at + 3) (k + 1) (laid Open k list))
  group-deeper zero h = absurd (h refl)
  group-deeper (suc l) h = let d : suc l - 1 ≡ l = omega arith in rw d

pub field_is : (l : ℕ) (s : List ℕ) (end : ℕ) (p : Place) (at k : ℕ) (list : List ℕ)
    → field_at l s end p at k list ≡ on_front (front_at p s end at) list (λ next. group_by s at k list next l)
unfolding field_at
field_is zero s end p at k list = refl
field_is (suc l) s end p at k list = refl

pub body-walks : (f : Fields) (s : List ℕ) (end at k : ℕ) (list : List ℕ) (y : Field) (list₁ : List ℕ) (next l : ℕ)
    → (Ok y, list₁) ≡ f place.First at k list → y ≡ field.Group next l → body_at f s end at k list ≡ walk_at f (end - next) end next l list₁
unfolding body_at
body-walks f s end at k list y list₁ next l e g = rw (← e, g)

module _ (f : Fields) (end i k : ℕ) (list : List ℕ) where
  pub walk-stop : (fuel : ℕ) → end ≤ i → walk_at f fuel end i k list ≡ (Ok k, list)
  unfolding walk_at
  walk-stop zero h = refl
  walk-stop (suc fuel) h = rw (le-ltb i end h)

  pub walk_next : (fuel : ℕ) → i < end → end - i ≤ fuel → walk_at f fuel end i k list ≡ walk_after (λ i k list. walk_at f (fuel - 1) end i k list) (f place.Group i k list)
  unfolding walk_at
  walk_next zero h b = absurd (omega arith)
  walk_next (suc fuel) h b = let d : suc fuel - 1 ≡ fuel = omega arith in rw (lt-ltb i end h, d)
