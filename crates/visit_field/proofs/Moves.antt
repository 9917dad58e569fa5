-- A front that was read ends within its group, past its header.
use Prim.Native.Nat.{ℕ, ◌+◌, ◌≤◌}
use mathlib.Core.Bool.{◌&&◌}
use mathlib.Core.List.{List}
use native.Mathlib.Omega.{arith}
use borrow.Author.Tests.{leb-true}
use lib.Dec.{eqb, ltb, leb}
use lib.ListN.{length, get_or}
use Rattle.laws.specs.Choices.{pick}
use Rattle.std.specs.Prelude.{Result, Ok, Err}
use Rattle.visit.specs.declared.Fault.{Fault}
use Rattle.visit.specs.declared.Place.{Place}
use Rattle.visit.specs.declared.Kind.{Kind}
use Rattle.visit.specs.declared.Kind.TheVariants as kind
use Rattle.visit.specs.Tags as tag
use Rattle.visit.specs.Tree.{tag_of, most}
use Rattle.visit.specs.Reader.{kind_of}
use Rattle.visit_field.specs.declared.Front.{Front}
use Rattle.visit_field.specs.declared.Front.TheVariants.{Group, Told}
use Rattle.visit_field.specs.Front.{word_at, size_at, value_at, pascals_at, missing_at, by_kind_at, whole_at, front_at}

abbrev pub Moves : ℕ → ℕ → Result Front Fault → Type 0
Moves at end (Ok (Group next)) = (at + 3 ≤ next) × (next ≤ end)
Moves at end (Ok (Told a next)) = (at + 3 ≤ next) × (next ≤ end)
Moves at end (Err f) = Unit

module _ (p : Place) (s : List ℕ) (at n end : ℕ) (h : at + 3 + n ≤ end) where
  value-moves : Moves at end (value_at p s at n)
  unfolding value_at
  value-moves =
      pick (Moves at end) (eqb n 4)
      (λ e. pick (Moves at end) (ltb (most p) (word_at s (at + 3))) (λ e. tt) (λ e. omega arith)) (λ e. tt)

  pascals-moves : Moves at end (pascals_at s at n)
  unfolding pascals_at
  pascals-moves =
      pick (Moves at end) (eqb n 4)
      (λ e. pick (Moves at end) (ltb tag.most_pascals (word_at s (at + 3))) (λ e. tt) (λ e. omega arith)) (λ e. tt)

  missing-moves : Moves at end (missing_at p s at n)
  unfolding missing_at
  missing-moves =
      pick (Moves at end) (eqb n 2)
      (λ e. pick (Moves at end) (eqb (get_or s (at + 3) 0) (tag_of p))
      (λ e. pick (Moves at end) (ltb (get_or s (at + 4) 0) tag.first_missing) (λ e. tt)
      (λ e. pick (Moves at end) (ltb tag.last_missing (get_or s (at + 4) 0)) (λ e. tt) (λ e. omega arith))) (λ e. tt)) (λ e. tt)

  kind-moves : (k : Kind) → Moves at end (by_kind_at p k s at n)
  kind-moves kind.Group = omega arith
  kind-moves kind.Value = value-moves
  kind-moves kind.Pascals = pascals-moves
  kind-moves kind.Missing = missing-moves
  kind-moves kind.Strange = tt

pub front-moves : (p : Place) (s : List ℕ) (end at : ℕ) → Moves at end (front_at p s end at)
unfolding front_at whole_at
front-moves p s end at =
    pick (Moves at end) (leb end (length s) && leb (at + 3) end)
    (λ e. pick (Moves at end) (leb (at + 3 + size_at s at) end)
    (λ f. kind-moves p s at (size_at s at) end (omega (arith, leb-true (at + 3 + size_at s at) end f)) (kind_of p (get_or s at 0))) (λ f. tt)) (λ e. tt)
