-- The steps of a valid tree pass the checks.
use Prim.Native.Nat.{ℕ, zero, suc, ◌+◌, ◌*◌, ◌≤◌, ◌<◌}
use native.Mathlib.Omega.{arith}
use borrow.Author.Tests.{le-leb, lt-ltb}
use mathlib.Core.Bool.{Bool, true, ◌&&◌}
use mathlib.Core.List.{List, [], ◌∷◌, ◌++◌, append_assoc}
use mathlib.Core.Path.{◌≡◌, refl, ap, ◌∙◌}
use lib.Dec.{leb}
use Rattle.visit.specs.declared.Place.{Place}
use Rattle.visit.specs.declared.Place.TheVariants as place
use Rattle.visit.specs.declared.Holds.{Holds}
use Rattle.visit.specs.declared.Holds.TheVariants as holds
use Rattle.visit.specs.declared.Stage.{Stage}
use Rattle.visit.specs.declared.Stage.TheVariants as stage
use Rattle.visit.specs.Steps.{Step, opened, slot, closed, around}
use Rattle.visit.specs.Tree.{Reading, exact, pascals, gone, Group, Groups, of_slot, of_groups, none, more, most, Within, Valid, AllValid, answer_of, steps_in}
use Rattle.visit.specs.Tree.{steps_in_all, steps_of}
use Rattle.visit.specs.Writer.{is_within, slot_fits, up, turn, fine, checked}
use Rattle.visit.proofs.Apart.{apart}

-- ---- checks

both_true : (a b : Bool) → a ≡ true → b ≡ true → a && b ≡ true
both_true a b e f = rw (e, f)

within : (p : Place) (r : Reading) → Within p r → is_within p (answer_of r) ≡ true
within p (exact v) w = le-leb v (most p) w.1
within place.Group (pascals v) w = (let z = w.0 in apart (cc))
within place.First (pascals v) w = (let z = w.0 in apart (cc))
within place.Temperature (pascals v) w = (let z = w.0 in apart (cc))
within place.Pressure (pascals v) w = le-leb (v * 256) 0xFFFFFFFF (omega arith)
within place.Humidity (pascals v) w = (let z = w.0 in apart (cc))
within p (gone n) w = both_true (leb 10 n) (leb n 14) (le-leb 10 n w.1.0) (le-leb n 14 w.1.1)

-- what a group holds at its end
abbrev held_by : Group → Holds
held_by (of_slot time t p h) = holds.Slot
held_by (of_groups g gs) = holds.Groups

-- one list of steps is checked like another
abbrev Like : Stage → List Step → ℕ → Stage → List Step → Type 0
Like st ss i st' ss' = (j : ℕ) × (checked st ss i ≡ checked st' ss' j)

pub up_one : (l : ℕ) → l < 3 → up l ≡ stage.Open (suc l) holds.Groups
up_one l h = rw (lt-ltb l 3 h)

-- a close, whatever a group holds
close-group : (g : Group) (l : ℕ) (ss : List Step) (i : ℕ) → Like (stage.Open l (held_by g)) (closed ∷ ss) i (up l) ss
unfolding checked turn
close-group (of_slot time t p h) l ss i = (i + 1, refl)
close-group (of_groups g gs) l ss i = (i + 1, refl)

abbrev MayOpen : Holds → Type 0
MayOpen holds.Nothing = Unit
MayOpen holds.Groups = Unit
MayOpen holds.Slot = ⊥

open-group : (held : Holds) (l : ℕ) (ss : List Step) (i : ℕ) → MayOpen held → Like (stage.Open (suc l) held) (opened ∷ ss) i (stage.Open l holds.Nothing) ss
unfolding checked turn
open-group holds.Nothing l ss i m = (i + 1, refl)
open-group holds.Groups l ss i m = (i + 1, refl)
open-group holds.Slot l ss i m = absurd m

-- a group, from what it holds
around-checked : (g : Group) (held : Holds) (l : ℕ) (ss : List Step) (i : ℕ) → MayOpen held → l < 3
    → ((k : ℕ) → Like (stage.Open l holds.Nothing) (steps_in g ++ (closed ∷ ss)) k (stage.Open l (held_by g)) (closed ∷ ss))
    → Like (stage.Open (suc l) held) (around (steps_in g) ++ ss) i (stage.Open (suc l) holds.Groups) ss
around-checked g held l ss i m h inner =
    let a = open-group held l ((steps_in g ++ (closed ∷ [])) ++ ss) i m in
    let b = inner a.0 in
    let c = close-group g l ss b.0 in
    (c.0, a.1 ∙ ap (λ x. checked (stage.Open l holds.Nothing) x a.0) (append_assoc (steps_in g) (closed ∷ []) ss) ∙ b.1 ∙ c.1 ∙ ap (λ x. checked x ss c.0) (up_one l h))

slot-checked : (time : ℕ) (t p h : Reading) (l : ℕ) (ss : List Step) (i : ℕ)
    → Within place.First (exact time) × (Within place.Temperature t × (Within place.Pressure p × Within place.Humidity h))
    → Like (stage.Open l holds.Nothing) (slot time (answer_of t) (answer_of p) (answer_of h) ∷ ss) i (stage.Open l holds.Slot) ss
unfolding checked turn slot_fits
slot-checked time t p h l ss i v =
    (i + 1, rw (le-leb time 0xFFFFFFFF v.0.1, within place.Temperature t v.1.0, within place.Pressure p v.1.1.0, within place.Humidity h v.1.1.1))

mutual
  unfolding steps_in

  checked-in : (g : Group) (l : ℕ) (ss : List Step) (i : ℕ) → Valid g l → l ≤ 3 → Like (stage.Open l holds.Nothing) (steps_in g ++ ss) i (stage.Open l (held_by g)) ss
  checked-in (of_slot time t p h) l ss i v b = slot-checked time t p h l ss i v
  checked-in (of_groups g gs) zero ss i v b = absurd v
  checked-in (of_groups g gs) (suc l) ss i v b =
      let x = around-checked g holds.Nothing l (steps_in_all gs ++ ss) i tt (omega arith) (λ k. checked-in g l (closed ∷ (steps_in_all gs ++ ss)) k v.0 (omega arith)) in
      let y = checked-all gs l ss x.0 v.1 b in
      (y.0, ap (λ z. checked (stage.Open (suc l) holds.Nothing) z i) (append_assoc (around (steps_in g)) (steps_in_all gs) ss) ∙ x.1 ∙ y.1)

  checked-all :
      (gs : Groups) (l : ℕ) (ss : List Step) (i : ℕ) → AllValid gs l → suc l ≤ 3
      → Like (stage.Open (suc l) holds.Groups) (steps_in_all gs ++ ss) i (stage.Open (suc l) holds.Groups) ss
  checked-all none l ss i v b = (i, refl)
  checked-all (more g gs) l ss i v b =
      let x = around-checked g holds.Groups l (steps_in_all gs ++ ss) i tt (omega arith) (λ k. checked-in g l (closed ∷ (steps_in_all gs ++ ss)) k v.0 (omega arith)) in
      let y = checked-all gs l ss x.0 v.1 b in
      (y.0, ap (λ z. checked (stage.Open (suc l) holds.Groups) z i) (append_assoc (around (steps_in g)) (steps_in_all gs) ss) ∙ x.1 ∙ y.1)

pub checked-tree : (g : Group) → Valid g 3 → checked stage.Start (steps_of g) 0 ≡ fine
checked-tree g v =
    let x = checked-in g 3 (closed ∷ []) 1 v (omega arith) in
    let y = close-group g 3 [] x.0 in
    start ∙ x.1 ∙ y.1 ∙ end y.0
  where
    start : checked stage.Start (steps_of g) 0 ≡ checked (stage.Open 3 holds.Nothing) (steps_in g ++ (closed ∷ [])) 1
    start = unfold checked turn in refl

    end : (j : ℕ) → checked (up 3) [] j ≡ fine
    end j = unfold checked in refl
