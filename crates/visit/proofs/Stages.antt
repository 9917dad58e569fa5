-- From stage to stage: what a stage tells of the steps before it, and that every stage can still become a record.
use Prim.Native.Nat.{ℕ, zero, suc, ◌+◌, ◌-◌, ◌≤◌}
use native.Mathlib.Omega.{arith}
use mathlib.Core.Bool.{Bool, true, false, cond}
use mathlib.Core.List.{List, [], ◌∷◌, ◌++◌}
use mathlib.Core.Path.{◌≡◌, refl, sym, ap, subst, ◌∙◌}
use lib.ListN.{length}
use Rattle.std.specs.Prelude.{Ok, Err}
use Rattle.visit.specs.declared.Holds.{Holds}
use Rattle.visit.specs.declared.Holds.TheVariants as holds
use Rattle.visit.specs.declared.Stage.{Stage}
use Rattle.visit.specs.declared.Stage.TheVariants as stage
use Rattle.visit.specs.Steps.{value, Step, opened, slot, slotted, closed, stray}
use Rattle.visit.specs.Writer.{Turn, onward, halt, slot_fits, up, turn, fine, go_on, checked}
use Rattle.visit.specs.Refusals.{open_from, Last, nothing, the, last_from, open_number, slot_number, number_for, Begins}
use Rattle.visit.proofs.Apart.{apart}
use Rattle.visit.proofs.Building.{tree-from}
use Rattle.paper.specs.Numbers as no

abbrev pub Reaches : Stage → List Step → Stage → Type 0
Reaches st [] end = st ≡ end
Reaches st (s ∷ ss) end = (next : Stage) × (turn st s ≡ onward next) × Reaches next ss end

pub checked-on : (st end : Stage) (p q : List Step) (i : ℕ) → Reaches st p end → checked st (p ++ q) i ≡ checked end q (i + length p)
unfolding checked
checked-on st end [] q i r =
    let e : i ≡ i + 0 = omega arith in
    ap (λ x. checked x q i) r ∙ ap (checked end q) e
checked-on st end (s ∷ p) q i r =
    let e : i + 1 + length p ≡ i + suc (length p) = omega arith in
    ap (λ x. go_on x i (λ next. checked next (p ++ q) (i + 1))) r.1 ∙ checked-on r.0 end p q (i + 1) r.2 ∙ ap (checked end q) e

-- ---- what a stage tells

abbrev IsSlot : Last → Type 0
IsSlot nothing = ⊥
IsSlot (the opened) = ⊥
IsSlot (the (slotted s)) = Unit
IsSlot (the closed) = ⊥
IsSlot (the stray) = ⊥

abbrev HoldsBy : Holds → Last → Type 0
HoldsBy holds.Nothing last = last ≡ the opened
HoldsBy holds.Groups last = last ≡ the closed
HoldsBy holds.Slot last = IsSlot last

abbrev pub Tells : Stage → ℕ → Last → Type 0
Tells stage.Start d last = (d ≡ 0) × (last ≡ nothing)
Tells (stage.Open l held) d last = (1 ≤ d) × ((l + d ≡ 4) × HoldsBy held last)
Tells stage.Done d last = (d ≡ 0) × (last ≡ the closed)

moved : (a b : Stage) (d : ℕ) (last : Last) → a ≡ b → Tells a d last → Tells b d last
moved a b d last e h = subst (λ st. Tells st d last) e h

up-tells : (l d : ℕ) → 1 ≤ d → l + d ≡ 4 → Tells (up l) (d - 1) (the closed)
up-tells zero d h e = (omega arith, (omega arith, refl))
up-tells (suc zero) d h e = (omega arith, (omega arith, refl))
up-tells (suc (suc zero)) d h e = (omega arith, (omega arith, refl))
up-tells (suc (suc (suc zero))) d h e = (omega arith, refl)
up-tells (suc (suc (suc (suc l)))) d h e = absurd (omega arith)

next-tells : (st next : Stage) (s : Step) (d : ℕ) (last : Last) → Tells st d last → turn st s ≡ onward next → Tells next (open_from d (s ∷ [])) (the s)
unfolding turn
next-tells stage.Start next opened d last h e = moved (stage.Open 3 holds.Nothing) next (suc d) (the opened) (cc) (omega arith, (omega (arith, h.0), refl))
next-tells stage.Start next (slotted s) d last h e = apart (cc)
next-tells stage.Start next closed d last h e = apart (cc)
next-tells stage.Start next stray d last h e = apart (cc)
next-tells (stage.Open zero holds.Nothing) next opened d last h e = apart (cc)
next-tells (stage.Open (suc l) holds.Nothing) next opened d last h e =
    moved (stage.Open l holds.Nothing) next (suc d) (the opened) (cc) (omega arith, (omega (arith, h.1.0), refl))
next-tells (stage.Open l holds.Nothing) next (slotted s) d last h e = go (slot_fits s) e
  where
    go : (b : Bool) → cond b (onward (stage.Open l holds.Slot)) (halt no.value_outside) ≡ onward next → Tells next d (the (slotted s))
    go true e = moved (stage.Open l holds.Slot) next d (the (slotted s)) (cc) (h.0, (h.1.0, tt))
    go false e = apart (cc)
next-tells (stage.Open l holds.Nothing) next closed d last h e = apart (cc)
next-tells (stage.Open l holds.Nothing) next stray d last h e = apart (cc)
next-tells (stage.Open zero holds.Groups) next opened d last h e = apart (cc)
next-tells (stage.Open (suc l) holds.Groups) next opened d last h e =
    moved (stage.Open l holds.Nothing) next (suc d) (the opened) (cc) (omega arith, (omega (arith, h.1.0), refl))
next-tells (stage.Open l holds.Groups) next (slotted s) d last h e = apart (cc)
next-tells (stage.Open l holds.Groups) next closed d last h e = moved (up l) next (d - 1) (the closed) (cc) (up-tells l d h.0 h.1.0)
next-tells (stage.Open l holds.Groups) next stray d last h e = apart (cc)
next-tells (stage.Open l holds.Slot) next opened d last h e = apart (cc)
next-tells (stage.Open l holds.Slot) next (slotted s) d last h e = apart (cc)
next-tells (stage.Open l holds.Slot) next closed d last h e = moved (up l) next (d - 1) (the closed) (cc) (up-tells l d h.0 h.1.0)
next-tells (stage.Open l holds.Slot) next stray d last h e = apart (cc)
next-tells stage.Done next s d last h e = apart (cc)

pub reached-tells : (st end : Stage) (p : List Step) (d : ℕ) (last : Last) → Tells st d last → Reaches st p end → Tells end (open_from d p) (last_from last p)
reached-tells st end [] d last h r = moved st end d last r h
reached-tells st end (opened ∷ p) d last h r = reached-tells r.0 end p (suc d) (the opened) (next-tells st r.0 opened d last h r.1) r.2
reached-tells st end (slotted s ∷ p) d last h r =
    reached-tells r.0 end p d (the (slotted s)) (next-tells st r.0 (slotted s) d last h r.1) r.2
reached-tells st end (closed ∷ p) d last h r = reached-tells r.0 end p (d - 1) (the closed) (next-tells st r.0 closed d last h r.1) r.2
reached-tells st end (stray ∷ p) d last h r = reached-tells r.0 end p d (the stray) (next-tells st r.0 stray d last h r.1) r.2

-- ---- the number of a refused step

abbrev number_in : Turn → ℕ
number_in (Ok st) = 0
number_in (Err r) = r.number

number_of : (a n : ℕ) → halt a ≡ halt n → n ≡ a
number_of a n e = sym (ap number_in e)

four-open : (d : ℕ) → d ≡ 4 → open_number d (the opened) ≡ no.too_deep
four-open d e = rw e

four-closed : (d : ℕ) → d ≡ 4 → open_number d (the closed) ≡ no.too_deep
four-closed d e = rw e

slot-open : (d : ℕ) (last : Last) → IsSlot last → open_number d last ≡ no.tag_out_of_place
slot-open d nothing h = absurd h
slot-open d (the opened) h = absurd h
slot-open d (the (slotted s)) h = refl
slot-open d (the closed) h = absurd h
slot-open d (the stray) h = absurd h

slot-slot : (last : Last) → IsSlot last → slot_number last ≡ no.tag_out_of_place
slot-slot nothing h = absurd h
slot-slot (the opened) h = absurd h
slot-slot (the (slotted s)) h = refl
slot-slot (the closed) h = absurd h
slot-slot (the stray) h = absurd h

pub refused-number : (st : Stage) (s : Step) (d : ℕ) (last : Last) (n : ℕ) → Tells st d last → turn st s ≡ halt n → n ≡ number_for d last s
unfolding turn
refused-number stage.Start opened d last n h e = apart (cc)
refused-number stage.Start (slotted s) d last n h e = number_of _ n e ∙ sym (ap slot_number h.1)
refused-number stage.Start closed d last n h e = number_of _ n e
refused-number stage.Start stray d last n h e = number_of _ n e
refused-number (stage.Open zero holds.Nothing) opened d last n h e = number_of _ n e ∙ sym (ap (open_number d) h.1.1 ∙ four-open d (omega (arith, h.1.0)))
refused-number (stage.Open (suc l) holds.Nothing) opened d last n h e = apart (cc)
refused-number (stage.Open l holds.Nothing) (slotted s) d last n h e = go (slot_fits s) e
  where
    go : (b : Bool) → cond b (onward (stage.Open l holds.Slot)) (halt no.value_outside) ≡ halt n → n ≡ slot_number last
    go true e = apart (cc)
    go false e = number_of _ n e ∙ sym (ap slot_number h.1.1)
refused-number (stage.Open l holds.Nothing) closed d last n h e = number_of _ n e
refused-number (stage.Open l holds.Nothing) stray d last n h e = number_of _ n e
refused-number (stage.Open zero holds.Groups) opened d last n h e = number_of _ n e ∙ sym (ap (open_number d) h.1.1 ∙ four-closed d (omega (arith, h.1.0)))
refused-number (stage.Open (suc l) holds.Groups) opened d last n h e = apart (cc)
refused-number (stage.Open l holds.Groups) (slotted s) d last n h e = number_of _ n e ∙ sym (ap slot_number h.1.1)
refused-number (stage.Open l holds.Groups) closed d last n h e = apart (cc)
refused-number (stage.Open l holds.Groups) stray d last n h e = number_of _ n e
refused-number (stage.Open l holds.Slot) opened d last n h e = number_of _ n e ∙ sym (slot-open d last h.1.1)
refused-number (stage.Open l holds.Slot) (slotted s) d last n h e = number_of _ n e ∙ sym (slot-slot last h.1.1)
refused-number (stage.Open l holds.Slot) closed d last n h e = apart (cc)
refused-number (stage.Open l holds.Slot) stray d last n h e = number_of _ n e
refused-number stage.Done opened d last n h e = number_of _ n e ∙ sym (ap (open_number d) h.1 ∙ ap (λ x. open_number x (the closed)) h.0)
refused-number stage.Done (slotted s) d last n h e = number_of _ n e ∙ sym (ap slot_number h.1)
refused-number stage.Done closed d last n h e = number_of _ n e
refused-number stage.Done stray d last n h e = number_of _ n e

-- ---- every stage can still become a record

-- the steps that finish a record from a stage on
abbrev a_slot : Step
a_slot = slot 0 (value 0) (value 0) (value 0)

abbrev closes : ℕ → List Step
closes zero = closed ∷ (closed ∷ (closed ∷ (closed ∷ [])))
closes (suc zero) = closed ∷ (closed ∷ (closed ∷ []))
closes (suc (suc zero)) = closed ∷ (closed ∷ [])
closes (suc (suc (suc l))) = closed ∷ []

abbrev rest : Stage → List Step
rest stage.Start = opened ∷ (a_slot ∷ (closed ∷ []))
rest (stage.Open l holds.Nothing) = a_slot ∷ closes l
rest (stage.Open l holds.Groups) = closes l
rest (stage.Open l holds.Slot) = closes l
rest stage.Done = []

-- a slot closes as groups do
slot-closes : (l : ℕ) (i : ℕ) → checked (stage.Open l holds.Slot) (closes l) i ≡ checked (stage.Open l holds.Groups) (closes l) i
unfolding checked turn
slot-closes zero i = refl
slot-closes (suc zero) i = refl
slot-closes (suc (suc zero)) i = refl
slot-closes (suc (suc (suc l))) i = refl

groups-close : (l : ℕ) (i : ℕ) → l ≤ 3 → checked (stage.Open l holds.Groups) (closes l) i ≡ fine
unfolding checked turn
groups-close zero i h = refl
groups-close (suc zero) i h = refl
groups-close (suc (suc zero)) i h = refl
groups-close (suc (suc (suc zero))) i h = refl
groups-close (suc (suc (suc (suc l)))) i h = absurd (omega arith)

slot-first : (l : ℕ) (i : ℕ) → checked (stage.Open l holds.Nothing) (a_slot ∷ closes l) i ≡ checked (stage.Open l holds.Slot) (closes l) (i + 1)
unfolding checked turn slot_fits
slot-first l i = refl

finished : (st : Stage) (i d : ℕ) (last : Last) → Tells st d last → checked st (rest st) i ≡ fine
finished stage.Start i d last h = unfold checked turn slot_fits in refl
finished (stage.Open l holds.Nothing) i d last h = slot-first l i ∙ slot-closes l (i + 1) ∙ groups-close l (i + 1) (omega (arith, h.0, h.1.0))
finished (stage.Open l holds.Groups) i d last h = groups-close l i (omega (arith, h.0, h.1.0))
finished (stage.Open l holds.Slot) i d last h = slot-closes l i ∙ groups-close l i (omega (arith, h.0, h.1.0))
finished stage.Done i d last h = unfold checked in refl

pub begins : (end : Stage) (p : List Step) → Reaches stage.Start p end → Begins p
begins end p r =
    let h = reached-tells stage.Start end p 0 nothing (refl, refl) r in
    let t = tree-from (p ++ rest end) 0 (checked-on stage.Start end p (rest end) 0 r ∙ finished end (0 + length p) (open_from 0 p) (last_from nothing p) h) in
    record { group = t.group; valid = t.valid; later = rest end; goes_on = sym t.steps }
