-- What was read of a front stands within its group, and no more steps are laid down than bytes are passed.
use Prim.Native.Nat.{ℕ, ◌+◌, ◌≤◌}
use mathlib.Core.List.{List}
use mathlib.Core.Path.{◌≡◌, sym, subst}
use native.Mathlib.Omega.{arith}
use lib.Dec.{ltb}
use Rattle.std.specs.Prelude.{Result, Ok, Err}
use Rattle.laws.specs.Choices.{pick}
use Rattle.visit.specs.declared.Fault.{Fault}
use Rattle.visit.specs.declared.Place.{Place}
use Rattle.visit.specs.declared.Place.TheVariants as place
use Rattle.visit.specs.Steps.{Answer}
use Rattle.visit_field.specs.declared.Front.{Front}
use Rattle.visit_field.specs.declared.Front.TheVariants as front
use Rattle.visit_field.specs.Front.{front_at}
use Rattle.visit_field.proofs.Moves.{Moves, front-moves}
use Rattle.visit_read.specs.Slots.{Filling, told, on_told, slot_at, slot_by}
use Rattle.visit_read.specs.Groups.{Ends}

pub moved : (p : Place) (s : List ℕ) (end at : ℕ) (f : Result Front Fault) → f ≡ front_at p s end at → Moves at end f
moved p s end at f e = subst (Moves at end) (sym e) (front-moves p s end at)

told-end : (g : Answer → ℕ → Filling × List ℕ) (at end k : ℕ) (x : Result Front Fault) (list : List ℕ) → Moves at end x
    → ((a : Answer) (next : ℕ) → at + 3 ≤ next → next ≤ end → Ends at end k (g a next).0) → Ends at end k (on_told (told x) list g).0
told-end g at end k (Ok (front.Group next)) list m h = tt
told-end g at end k (Ok (front.Told a next)) list m h = h a next m.0 m.1
told-end g at end k (Err f) list m h = tt

ends-later : (at at' end k : ℕ) (x : Filling) → at ≤ at' → Ends at' end k x → Ends at end k x
ends-later at at' end k (Ok l) h e = omega arith
ends-later at at' end k (Err f) h e = tt

slot-ends : (s : List ℕ) (end time at k : ℕ) (list : List ℕ) → at ≤ end → Ends at end k (slot_at s end time at k list).0
unfolding slot_at
slot-ends s end time at k list h =
    told-end _ at end k (front_at place.Temperature s end at) list (front-moves place.Temperature s end at)
    (λ t i m b. ends-later at i end k _ (omega arith) (told-end _ i end k (front_at place.Pressure s end i) list (front-moves place.Pressure s end i)
    (λ p j m b. ends-later i j end k _ (omega arith) (told-end _ j end k (front_at place.Humidity s end j) list (front-moves place.Humidity s end j)
    (λ q n m b. pick (λ (x : Filling × List ℕ). Ends j end k x.0) (ltb n end) (λ e. tt) (λ e. omega arith))))))

slot-by-end : (s : List ℕ) (end : ℕ) (a : Answer) (at next k : ℕ) (list : List ℕ) → at ≤ next → next ≤ end → Ends at end k (slot_by s end a next k list).0
unfolding slot_by
slot-by-end s end (Ok time) at next k list h b = ends-later at next end k (slot_at s end time next k list).0 h (slot-ends s end time next k list b)
slot-by-end s end (Err a) at next k list h b = tt

pub slot-by-ends : (s : List ℕ) (end : ℕ) (a : Answer) (at next k : ℕ) (list : List ℕ) (x : Filling × List ℕ) → x ≡ slot_by s end a next k list → at ≤ next → next ≤ end → Ends at end k x.0
slot-by-ends s end a at next k list x e h b = subst (λ (y : Filling × List ℕ). Ends at end k y.0) (sym e) (slot-by-end s end a at next k list h b)
