-- Where a list of steps is refused, and with which number: at the first step with which no record goes on, or at its end where it is none yet.
-- The number is told by what stands before the step: how many groups are open, and which step came last.
use Rattle.std.specs.Prelude.{ℕ, suc, ◌-◌, cond, List, [], ◌∷◌, ◌++◌, ◌⊎◌, ◌≡◌, eqb, length}
use Rattle.visit.specs.Steps.{Step, opened, slotted, closed, stray}
use Rattle.visit.specs.Tags as tag
use Rattle.visit.specs.Words.{from_words}
use Rattle.visit.specs.Tree.{Group, Valid, steps_of}
use Rattle.visit.specs.Lent.{number_at}
use Rattle.visit.specs.Records.{Call}
use Rattle.paper.specs.Numbers as no

-- ---- what stands before a step

abbrev pub open_from : ℕ → List Step → ℕ
open_from d [] = d
open_from d (opened ∷ steps) = open_from (suc d) steps
open_from d (slotted s ∷ steps) = open_from d steps
open_from d (closed ∷ steps) = open_from (d - 1) steps
open_from d (stray ∷ steps) = open_from d steps

pub data Last : Type 0 where
  nothing : Last
  the : Step → Last

abbrev pub last_from : Last → List Step → Last
last_from last [] = last
last_from last (step ∷ steps) = last_from (the step) steps

-- ---- the number of a step that can't stand there

-- an open is one too deep where four groups are open; in a group that has its slot it is out of place
abbrev pub open_number : ℕ → Last → ℕ
open_number d nothing = no.tag_out_of_place
open_number d (the opened) = cond (eqb d tag.levels) no.too_deep no.tag_out_of_place
open_number d (the (slotted s)) = no.tag_out_of_place
open_number d (the closed) = cond (eqb d tag.levels) no.too_deep no.tag_out_of_place
open_number d (the stray) = no.tag_out_of_place

-- a slot right after an open is in its place, so that a value is outside its limits
abbrev pub slot_number : Last → ℕ
slot_number nothing = no.tag_out_of_place
slot_number (the opened) = no.value_outside
slot_number (the (slotted s)) = no.tag_out_of_place
slot_number (the closed) = no.tag_out_of_place
slot_number (the stray) = no.tag_out_of_place

abbrev pub number_for : ℕ → Last → Step → ℕ
number_for d last opened = open_number d last
number_for d last (slotted s) = slot_number last
number_for d last closed = no.tag_out_of_place
number_for d last stray = no.tag_out_of_place

-- ---- the first fault

-- some record's steps begin so
pub record Begins (steps : List Step) : Type 0 where
  pub group : Group
  pub valid : Valid group 3
  pub later : List Step
  pub goes_on : steps_of group ≡ steps ++ later

-- a record can have all steps before the place, and none can have the step there too
pub record AtStep (steps : List Step) (number place : ℕ) : Type 0 where
  pub before : List Step
  pub step : Step
  pub after : List Step
  pub split : steps ≡ before ++ (step ∷ after)
  pub place_is : place ≡ length before
  pub number_is : number ≡ number_for (open_from 0 before) (last_from nothing before) step
  pub can : Begins before
  pub cannot : Begins (before ++ (step ∷ [])) → ⊥

-- a record can begin with all of them, and they are none
pub record AtEnd (steps : List Step) (number place : ℕ) : Type 0 where
  pub place_is : place ≡ length steps
  pub number_is : number ≡ no.tag_out_of_place
  pub can : Begins steps
  pub cannot : (g : Group) → Valid g 3 → steps_of g ≡ steps → ⊥

abbrev pub RefusesFirst : Call → Type 0
RefusesFirst writes =
    (words lent : List ℕ) (number place : ℕ) → (number ≡ no.done → ⊥) → (writes words lent).0 ≡ number_at number place
    → AtStep (from_words words) number place ⊎ AtEnd (from_words words) number place
