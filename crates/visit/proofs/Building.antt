-- Steps that pass the checks are those of a valid tree with no whole pascals.
use Prim.Native.Nat.{ℕ, zero, suc, ◌+◌, ◌≤◌, ◌<◌}
use native.Mathlib.Omega.{arith}
use borrow.Author.Tests.{leb-true}
use mathlib.Core.Bool.{Bool, true, false, cond, ◌&&◌}
use mathlib.Core.List.{List, [], ◌∷◌, ◌++◌, append_assoc}
use mathlib.Core.Path.{◌≡◌, refl, sym, ap, ◌∙◌}
use lib.Dec.{leb}
use lib.ListN.{length, length-append}
use Rattle.std.specs.Prelude.{Ok, Err}
use Rattle.visit.specs.declared.Place.{Place}
use Rattle.visit.specs.declared.Place.TheVariants as place
use Rattle.visit.specs.declared.Holds.TheVariants as holds
use Rattle.visit.specs.declared.Stage.TheVariants as stage
use Rattle.visit.specs.Steps.{Slot, Answer, Step, opened, slot, slotted, closed, stray, around}
use Rattle.visit.specs.Tree.{Reading, exact, gone, Group, Groups, of_slot, of_groups, none, more, most, has_value, has_missing, Within, Valid, AllValid, answer_of}
use Rattle.visit.specs.Tree.{steps_in, steps_in_all, steps_of, plain_reading, plain, plain_all}
use Rattle.visit.specs.Writer.{onward, halt, is_within, slot_fits, up, turn, fine, go_on, checked}
use Rattle.visit.proofs.Apart.{apart}
use Rattle.visit.proofs.Checking.{up_one}
use Rattle.paper.specs.Numbers as no

-- ---- accepted steps are those of a tree

abbrev reading_of : Answer → Reading
reading_of (Ok v) = exact v
reading_of (Err a) = gone a.number

answer_back : (a : Answer) → answer_of (reading_of a) ≡ a
answer_back (Ok v) = refl
answer_back (Err a) = refl

plain_back : (a : Answer) → plain_reading (reading_of a) ≡ reading_of a
plain_back (Ok v) = refl
plain_back (Err a) = refl

both-parts : (a b : Bool) → a && b ≡ true → (a ≡ true) × (b ≡ true)
both-parts true b e = (refl, e)
both-parts false b e = apart (cc)

within-back : (p : Place) (a : Answer) → has_value p ≡ true → has_missing p ≡ true → is_within p a ≡ true → Within p (reading_of a)
within-back p (Ok v) x y e = (x, leb-true v (most p) e)
within-back p (Err a) x y e = let b = both-parts (leb 10 a.number) (leb a.number 14) e in (y, (leb-true 10 a.number b.0, leb-true a.number 14 b.1))

-- what a group holds, up to its close, and the steps after that
pub record In (l : ℕ) (ss : List Step) : Type 0 where
  pub group : Group
  pub valid : Valid group l
  pub is_plain : plain group ≡ group
  pub rest : List Step
  pub steps : ss ≡ steps_in group ++ (closed ∷ rest)
  pub place : ℕ
  pub later : checked (up l) rest place ≡ fine

pub record All (l : ℕ) (ss : List Step) : Type 0 where
  pub groups : Groups
  pub valid : AllValid groups l
  pub are-plain : plain_all groups ≡ groups
  pub rest : List Step
  pub steps : ss ≡ steps_in_all groups ++ (closed ∷ rest)
  pub place : ℕ
  pub later : checked (up (suc l)) rest place ≡ fine

-- only a close comes after a slot
after-slot : (l : ℕ) (ss : List Step) (i : ℕ) → checked (stage.Open l holds.Slot) ss i ≡ fine → (rest : List Step) × (ss ≡ closed ∷ rest) × (checked (up l) rest (i + 1) ≡ fine)
unfolding checked turn
after-slot l [] i e = apart (cc)
after-slot l (opened ∷ ss) i e = apart (cc)
after-slot l (slotted s ∷ ss) i e = apart (cc)
after-slot l (stray ∷ ss) i e = apart (cc)
after-slot l (closed ∷ ss) i e = (ss, refl, e)

slot-in : (l : ℕ) (s : Slot) (ss : List Step) (i : ℕ) → checked (stage.Open l holds.Nothing) (slotted s ∷ ss) i ≡ fine → In l (slotted s ∷ ss)
unfolding checked turn slot_fits steps_in plain
slot-in l s ss i e = go (slot_fits s) refl e
  where
    go :
        (b : Bool) → slot_fits s ≡ b
        → go_on (cond b (onward (stage.Open l holds.Slot)) (halt no.value_outside)) i (λ next. checked next ss (i + 1)) ≡ fine → In l (slotted s ∷ ss)
    go true f e =
        let x = after-slot l ss (i + 1) e in
        let a = both-parts (leb s.time 0xFFFFFFFF) (is_within place.Temperature s.temperature && (is_within place.Pressure s.pressure && is_within place.Humidity s.humidity)) f in
        let b = both-parts (is_within place.Temperature s.temperature) (is_within place.Pressure s.pressure && is_within place.Humidity s.humidity) a.1 in
        let c = both-parts (is_within place.Pressure s.pressure) (is_within place.Humidity s.humidity) b.1 in
        record {
          group = of_slot s.time (reading_of s.temperature) (reading_of s.pressure) (reading_of s.humidity);
          valid = (
            (refl, leb-true s.time 0xFFFFFFFF a.0),
            (within-back place.Temperature s.temperature refl refl b.0, (within-back place.Pressure s.pressure refl refl c.0, within-back place.Humidity s.humidity refl refl c.1)),
          );
          is_plain = λ i. of_slot s.time (plain_back s.temperature i) (plain_back s.pressure i) (plain_back s.humidity i);
          rest = x.0;
          steps = λ i. slot s.time (sym (answer_back s.temperature) i) (sym (answer_back s.pressure) i) (sym (answer_back s.humidity) i) ∷ x.1 i;
          place = i + 1 + 1;
          later = x.2;
        }
    go false f e = apart (cc)

-- a group and those after it, behind an open
after_open : (l : ℕ) (ss rest : List Step) (g : Group) (gs : Groups) (last : List Step) → ss ≡ steps_in g ++ (closed ∷ rest) → rest ≡ steps_in_all gs ++ (closed ∷ last)
    → opened ∷ ss ≡ (around (steps_in g) ++ steps_in_all gs) ++ (closed ∷ last)
after_open l ss rest g gs last e f =
    ap (λ x. opened ∷ x) e
    ∙ ap (λ x. opened ∷ (steps_in g ++ (closed ∷ x))) f
    ∙ ap (λ x. opened ∷ x) (sym (append_assoc (steps_in g) (closed ∷ []) (steps_in_all gs ++ (closed ∷ last))))
    ∙ sym (append_assoc (around (steps_in g)) (steps_in_all gs) (closed ∷ last))

-- after its close, in the group around it
later-up : (l : ℕ) (ss : List Step) (x : In l ss) → l < 3 → checked (stage.Open (suc l) holds.Groups) x.rest x.place ≡ fine
later-up l ss x h = sym (ap (λ st. checked st x.rest x.place) (up_one l h)) ∙ x.later

shorter : (ss rest : List Step) (g : Group) (fuel : ℕ) → length ss ≤ fuel → ss ≡ steps_in g ++ (closed ∷ rest) → length rest ≤ fuel
shorter ss rest g fuel h e = omega (arith, ap length e, length-append (steps_in g) (closed ∷ rest))

mutual
  unfolding checked turn steps_in plain

  in-from : (fuel l : ℕ) (ss : List Step) (i : ℕ) → length ss ≤ fuel → l ≤ 3 → checked (stage.Open l holds.Nothing) ss i ≡ fine → In l ss
  in-from zero l [] i h b e = apart (cc)
  in-from zero l (s ∷ ss) i h b e = absurd (omega arith)
  in-from (suc fuel) l [] i h b e = apart (cc)
  in-from (suc fuel) zero (opened ∷ ss) i h b e = apart (cc)
  in-from (suc fuel) (suc l) (opened ∷ ss) i h b e =
      let x = in-from fuel l ss (i + 1) (omega arith) (omega arith) e in
      let y = all_from fuel l x.rest x.place (shorter ss x.rest x.group fuel (omega arith) x.steps) b (later-up l ss x (omega arith)) in
      record {
        group = of_groups x.group y.groups;
        valid = (x.valid, y.valid);
        is_plain = λ i. of_groups (x.is_plain i) (y.are-plain i);
        rest = y.rest;
        steps = after_open l ss x.rest x.group y.groups y.rest x.steps y.steps;
        place = y.place;
        later = y.later;
      }
  in-from (suc fuel) l (slotted s ∷ ss) i h b e = slot-in l s ss i e
  in-from (suc fuel) l (closed ∷ ss) i h b e = apart (cc)
  in-from (suc fuel) l (stray ∷ ss) i h b e = apart (cc)

  all_from : (fuel l : ℕ) (ss : List Step) (i : ℕ) → length ss ≤ fuel → suc l ≤ 3 → checked (stage.Open (suc l) holds.Groups) ss i ≡ fine → All l ss
  all_from zero l [] i h b e = apart (cc)
  all_from zero l (s ∷ ss) i h b e = absurd (omega arith)
  all_from (suc fuel) l [] i h b e = apart (cc)
  all_from (suc fuel) l (opened ∷ ss) i h b e =
      let x = in-from fuel l ss (i + 1) (omega arith) (omega arith) e in
      let y = all_from fuel l x.rest x.place (shorter ss x.rest x.group fuel (omega arith) x.steps) b (later-up l ss x (omega arith)) in
      record {
        groups = more x.group y.groups;
        valid = (x.valid, y.valid);
        are-plain = λ i. more (x.is_plain i) (y.are-plain i);
        rest = y.rest;
        steps = after_open l ss x.rest x.group y.groups y.rest x.steps y.steps;
        place = y.place;
        later = y.later;
      }
  all_from (suc fuel) l (slotted s ∷ ss) i h b e = apart (cc)
  all_from (suc fuel) l (stray ∷ ss) i h b e = apart (cc)
  all_from (suc fuel) l (closed ∷ ss) i h b e = record { groups = none; valid = tt; are-plain = refl; rest = ss; steps = refl; place = i + 1; later = e }

pub record OfTree (ss : List Step) : Type 0 where
  pub group : Group
  pub valid : Valid group 3
  pub is_plain : plain group ≡ group
  pub steps : ss ≡ steps_of group

-- nothing comes after the record
after-done : (ss : List Step) (i : ℕ) → checked stage.Done ss i ≡ fine → ss ≡ []
unfolding checked turn
after-done [] i e = refl
after-done (opened ∷ ss) i e = apart (cc)
after-done (slotted s ∷ ss) i e = apart (cc)
after-done (closed ∷ ss) i e = apart (cc)
after-done (stray ∷ ss) i e = apart (cc)

pub tree-from : (ss : List Step) (i : ℕ) → checked stage.Start ss i ≡ fine → OfTree ss
unfolding checked turn
tree-from [] i e = apart (cc)
tree-from (opened ∷ ss) i e =
    let x = in-from (length ss) 3 ss (i + 1) (omega arith) (omega arith) e in
    record {
      group = x.group;
      valid = x.valid;
      is_plain = x.is_plain;
      steps = ap (λ y. opened ∷ y) (x.steps ∙ ap (λ y. steps_in x.group ++ (closed ∷ y)) (after-done x.rest x.place x.later));
    }
tree-from (slotted s ∷ ss) i e = apart (cc)
tree-from (closed ∷ ss) i e = apart (cc)
tree-from (stray ∷ ss) i e = apart (cc)
