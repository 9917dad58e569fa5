-- What the checks grant to the walk back: at most four groups are still to be opened, and the number of a missing answer fits a byte.
use Prim.Native.Nat.{ℕ, zero, suc, ◌+◌, ◌-◌, ◌≤◌, ◌<◌}
use mathlib.Core.Bool.{true}
use mathlib.Core.List.{List, [], ◌∷◌}
use mathlib.Core.Path.{◌≡◌, refl, sym, ap, subst, ◌∙◌}
use native.Mathlib.Omega.{arith}
use borrow.Author.Tests.{leb-true, ltb-true, ltb-false}
use lib.Dec.{ltb, leb}
use lib.ListN.{length, drop}
use Rattle.laws.specs.Choices.{pick}
use Rattle.laws.specs.Tests.{both}
use Rattle.visit.specs.Steps.{Answer}
use Rattle.std.specs.Prelude.{Ok, Err}
use Rattle.visit.specs.declared.Holds.TheVariants as holds
use Rattle.visit.specs.declared.Place.{Place}
use Rattle.visit.specs.declared.Place.TheVariants as place
use Rattle.visit.specs.declared.Stage.{Stage}
use Rattle.visit.specs.declared.Stage.TheVariants as stage
use Rattle.visit.specs.declared.Slot.{Slot as SlotOf}
use Rattle.visit.specs.declared.Step.{Step}
use Rattle.visit.specs.declared.Step.TheVariants.{Open, Slot, Close, Stray}
use Rattle.visit.specs.Tree.{most}
use Rattle.visit.specs.Writer.{Turn, is_within, slot_fits, turn, fine, wrong, go_on, checked, framed_onto, frames}
use Rattle.visit.proofs.Faults.{CheckedFault, checked-fault}

-- ---- a step's numbers

abbrev pub InByte : Answer → Type 0
InByte (Ok v) = Unit
InByte (Err a) = a.number < 256

abbrev pub Small : Step → Type 0
Small Open = Unit
Small (Slot v) = InByte v.temperature × (InByte v.pressure × InByte v.humidity)
Small Close = Unit
Small Stray = Unit

in-byte : (p : Place) (a : Answer) → is_within p a ≡ true → InByte a
in-byte p (Ok v) e = tt
in-byte p (Err a) e = omega (arith, leb-true a.number 14 (both (leb 10 a.number) (leb a.number 14) e).1)

fits-small : (v : SlotOf) → slot_fits v ≡ true → InByte v.temperature × (InByte v.pressure × InByte v.humidity)
unfolding slot_fits
fits-small v e =
    let a = (both (leb v.time (most place.First)) _ e).1 in
    let b = both (is_within place.Temperature v.temperature) _ a in
    let d = both (is_within place.Pressure v.pressure) _ b.1 in
    (in-byte place.Temperature v.temperature b.0, (in-byte place.Pressure v.pressure d.0, in-byte place.Humidity v.humidity d.1))

-- ---- one step: what it leads to, and that a refusal's number is not 0

abbrev InRange : Stage → Type 0
InRange stage.Start = Unit
InRange (stage.Open l held) = l ≤ 3
InRange stage.Done = Unit

-- the groups that are open at a stage
abbrev depth : Stage → ℕ
depth stage.Start = 0
depth (stage.Open l held) = 4 - l
depth stage.Done = 0

depth-most : (st : Stage) → depth st ≤ 4
depth-most stage.Start = omega arith
depth-most (stage.Open l held) = omega arith
depth-most stage.Done = omega arith

-- those open before a step, by those after it
abbrev before : Step → ℕ → ℕ
before Open n = n - 1
before (Slot v) n = n
before Close n = suc n
before Stray n = n

record Taken (s : Step) (st next : Stage) : Type 0 where
  range : InRange next
  levels : before s (depth next) ≡ depth st
  small : Small s

abbrev TakenBy : Step → Stage → Turn → Type 0
TakenBy s st (Ok next) = Taken s st next
TakenBy s st (Err r) = Unit

up-taken : (l : ℕ) (held : _) → l ≤ 3 → TakenBy Close (stage.Open l held) (turn (stage.Open l holds.Slot) Close)
unfolding turn
up-taken l held r =
    pick (Taken Close (stage.Open l held)) (ltb l 3)
    (λ e. let h : l < 3 = ltb-true l 3 e in record { range = omega arith; levels = omega arith; small = tt })
    (λ e. let h : 3 ≤ l = ltb-false l 3 e in record { range = tt; levels = omega arith; small = tt })

taken : (st : Stage) (s : Step) → InRange st → TakenBy s st (turn st s)
unfolding turn
taken stage.Start Open r = record { range = omega arith; levels = refl; small = tt }
taken stage.Start (Slot v) r = tt
taken stage.Start Close r = tt
taken stage.Start Stray r = tt
taken (stage.Open zero holds.Nothing) Open r = tt
taken (stage.Open (suc l) holds.Nothing) Open r = record { range = omega arith; levels = omega arith; small = tt }
taken (stage.Open l holds.Nothing) (Slot v) r =
    pick (TakenBy (Slot v) (stage.Open l holds.Nothing)) (slot_fits v)
    (λ e. record { range = r; levels = refl; small = fits-small v e })
    (λ e. tt)
taken (stage.Open l holds.Nothing) Close r = tt
taken (stage.Open l holds.Nothing) Stray r = tt
taken (stage.Open zero holds.Groups) Open r = tt
taken (stage.Open (suc l) holds.Groups) Open r = record { range = omega arith; levels = omega arith; small = tt }
taken (stage.Open l holds.Groups) (Slot v) r = tt
taken (stage.Open l holds.Groups) Close r = up-taken l holds.Groups r
taken (stage.Open l holds.Groups) Stray r = tt
taken (stage.Open l holds.Slot) Open r = tt
taken (stage.Open l holds.Slot) (Slot v) r = tt
taken (stage.Open l holds.Slot) Close r = up-taken l holds.Slot r
taken (stage.Open l holds.Slot) Stray r = tt
taken stage.Done s r = tt

-- ---- all steps

framed-outer : (body : List ℕ) (outer : List (List ℕ)) → length (framed_onto body outer).outer ≡ length outer - 1
framed-outer body [] = refl
framed-outer body (b ∷ bs) = omega arith

outer-before : (s : Step) (ss : List Step) → length (frames (s ∷ ss)).outer ≡ before s (length (frames ss).outer)
unfolding frames
outer-before Open ss = framed-outer (frames ss).inner (frames ss).outer
outer-before (Slot v) ss = refl
outer-before Close ss = refl
outer-before Stray ss = refl

abbrev pub Sound : List Step → Type 0
Sound [] = Unit
Sound (s ∷ ss) = Small s × ((length (frames ss).outer ≤ 4) × Sound ss)

abbrev SoundFrom : Stage → List Step → Type 0
SoundFrom st ss = (length (frames ss).outer ≡ depth st) × Sound ss

not-fine : (number place : ℕ) → wrong number place ≡ fine → ⊥
not-fine number place e = let z : ◌≡◌ {A = ℕ} 0 1 = cc in omega arith

onward : (st : Stage) (s : Step) (ss : List Step) (i : ℕ) (t : Turn) → TakenBy s st t
    → ((next : Stage) → InRange next → checked next ss (i + 1) ≡ fine → SoundFrom next ss)
    → go_on t i (λ next. checked next ss (i + 1)) ≡ fine → SoundFrom st (s ∷ ss)
onward st s ss i (Ok next) h rest e =
    let after = rest next h.range e in
    let four : length (frames ss).outer ≤ 4 = omega (arith, after.0, depth-most next) in
    (outer-before s ss ∙ ap (before s) after.0 ∙ h.levels, (h.small, (four, after.1)))
onward st s ss i (Err r) h rest e = absurd (not-fine r.number i e)

sound-from : (ss : List Step) (st : Stage) (i : ℕ) → InRange st → checked st ss i ≡ fine → SoundFrom st ss
unfolding checked frames
sound-from [] stage.Start i r e = absurd (not-fine 19 i e)
sound-from [] (stage.Open l held) i r e = absurd (not-fine 19 i e)
sound-from [] stage.Done i r e = (refl, tt)
sound-from (s ∷ ss) st i r e = onward st s ss i (turn st s) (taken st s r) (λ next. sound-from ss next (i + 1)) e

pub sound : (ss : List Step) → checked stage.Start ss 0 ≡ fine → Sound ss
sound ss e = (sound-from ss stage.Start 0 tt e).1

pub none-outer : (ss : List Step) → checked stage.Start ss 0 ≡ fine → length (frames ss).outer ≡ 0
none-outer ss e = (sound-from ss stage.Start 0 tt e).0

pub sound-later : (k : ℕ) (ss : List Step) → Sound ss → Sound (drop k ss)
sound-later zero ss h = h
sound-later (suc k) [] h = tt
sound-later (suc k) (s ∷ ss) h = sound-later k ss h.1.1

pub not-zero : (ss : List Step) (number place : ℕ) → wrong number place ≡ checked stage.Start ss 0 → 0 < number
not-zero ss number place e =
    let h : CheckedFault (wrong number place) = subst CheckedFault (sym e) (checked-fault stage.Start ss 0) in
    omega (arith, h.0)
