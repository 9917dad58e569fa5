-- The tally of the fates. A happening moves whole kinds of conversions at once, so the tally after it is a sum of parts of the tally before it,
-- whichever conversions they are.
use Prim.Native.Nat.{ℕ, zero, suc, ◌+◌, ◌≤◌, ◌<◌}
use mathlib.Core.Path.{◌≡◌, refl, ap, ap₂, ◌∙◌}
use mathlib.Core.Bool.{Bool, true, false, not, ◌&&◌}
use mathlib.Core.List.{List, [], ◌∷◌}
use native.Mathlib.Omega.{arith}
use lib.Dec.{eqb}
use borrow.Author.Tests.{eqb-false, eq-eqb, ne_eqb}
use Rattle.kinds.specs.declared.Kind.{Kind}
use Rattle.ledger.specs.Happening.{Happening, began, finished, lost, opened, gave, closed, changed}
use Rattle.ledger.specs.History.{begun_in, open_in, whole_in, waits_in, is_present}
use Rattle.ledger.specs.History.{delivered, overwritten, abandoned, standing, bit, count}
use Rattle.ledger.specs.Statements.{places}
use Rattle.ledger.proofs.Fate.{Fate, Unbegun, Running, Waiting, Unread, Read, Delivered, Overwritten, Abandoned, every, Sight, sight_of, move, fate, above, zeroth, agree, stands}

pub record Counts : Type 0 where
  pub delivered : ℕ
  pub overwritten : ℕ
  pub abandoned : ℕ
  pub running : ℕ
  pub waiting : ℕ
  pub unread : ℕ

abbrev pub counts : ℕ → ℕ → ℕ → ℕ → ℕ → ℕ → Counts
counts d o a r w u = record { delivered = d; overwritten = o; abandoned = a; running = r; waiting = w; unread = u }

pub same : {d d' o o' a a' r r' w w' u u' : ℕ} → d ≡ d' → o ≡ o' → a ≡ a' → r ≡ r' → w ≡ w' → u ≡ u' → counts d o a r w u ≡ counts d' o' a' r' w' u'
same p q r s t u = cc

abbrev pub nought : Counts
nought = counts 0 0 0 0 0 0

abbrev pub one_runs : Counts
one_runs = counts 0 0 0 1 0 0

abbrev pub add : Counts → Counts → Counts
add x y =
    counts (x.delivered + y.delivered) (x.overwritten + y.overwritten) (x.abandoned + y.abandoned)
    (x.running + y.running) (x.waiting + y.waiting) (x.unread + y.unread)

abbrev one : Fate → Counts
one Unbegun = nought
one Running = one_runs
one Waiting = counts 0 0 0 0 1 0
one Unread = counts 0 0 0 0 0 1
one Read = counts 1 0 0 0 0 0
one Delivered = counts 1 0 0 0 0 0
one Overwritten = counts 0 1 0 0 0 0
one Abandoned = counts 0 0 1 0 0 0

abbrev tally : {kind : Kind} → ℕ → List (Happening kind) → Counts
tally zero h = nought
tally (suc n) h = add (one (fate h (suc n))) (tally n h)

-- ---- how a happening moves it

abbrev pub flow : {kind : Kind} → Happening kind → Bool → Bool → Bool → Counts → Counts
flow began o g w t = t
flow (finished x y z) true g w t = counts t.delivered (t.overwritten + t.waiting) t.abandoned 0 t.running t.unread
flow (finished x y z) false g w t = counts t.delivered (t.overwritten + (t.waiting + t.unread)) t.abandoned 0 0 t.running
flow lost o g w t = counts t.delivered t.overwritten (t.abandoned + (t.running + (t.waiting + t.unread))) 0 0 0
flow (opened i) o g w t = t
flow (gave v) o g w t = t
flow (changed c) o g w t = t
flow closed o true w t = counts (t.delivered + t.unread) t.overwritten t.abandoned t.running 0 t.waiting
flow closed o false true t = counts t.delivered (t.overwritten + t.unread) t.abandoned t.running 0 t.waiting
flow closed o false false t = counts t.delivered t.overwritten t.abandoned t.running 0 (t.waiting + t.unread)

abbrev Flows : {kind : Kind} → Happening kind → Bool → Bool → Bool → Fate → Type 0
Flows x o g w p = one (move x o g w false p) ≡ flow x o g w (one p)

flows : {kind : Kind} (x : Happening kind) (o g w : Bool) (p : Fate) → Flows x o g w p
flows began o g w p = refl
flows {kind} (finished x y z) true g w p = every (Flows {kind = kind} (finished x y z) true g w) refl refl refl refl refl refl refl refl p
flows {kind} (finished x y z) false g w p = every (Flows {kind = kind} (finished x y z) false g w) refl refl refl refl refl refl refl refl p
flows {kind} lost o g w p = every (Flows {kind = kind} lost o g w) refl refl refl refl refl refl refl refl p
flows (opened i) o g w p = refl
flows (gave v) o g w p = refl
flows (changed c) o g w p = refl
flows {kind} closed o true true p = every (Flows {kind = kind} closed o true true) refl refl refl refl refl refl refl refl p
flows {kind} closed o true false p = every (Flows {kind = kind} closed o true false) refl refl refl refl refl refl refl refl p
flows {kind} closed o false true p = every (Flows {kind = kind} closed o false true) refl refl refl refl refl refl refl refl p
flows {kind} closed o false false p = every (Flows {kind = kind} closed o false false) refl refl refl refl refl refl refl refl p

flow-add : {kind : Kind} (x : Happening kind) (o g w : Bool) (s t : Counts) → add (flow x o g w s) (flow x o g w t) ≡ flow x o g w (add s t)
flow-add began o g w s t = refl
flow-add (finished x y z) true g w s t = same refl (omega arith) refl refl refl refl
flow-add (finished x y z) false g w s t = same refl (omega arith) refl refl refl refl
flow-add lost o g w s t = same refl refl (omega arith) refl refl refl
flow-add (opened i) o g w s t = refl
flow-add (gave v) o g w s t = refl
flow-add (changed c) o g w s t = refl
flow-add closed o true w s t = same (omega arith) refl refl refl refl refl
flow-add closed o false true s t = same refl (omega arith) refl refl refl refl
flow-add closed o false false s t = same refl refl refl refl refl (omega arith)

flow-nought : {kind : Kind} (x : Happening kind) (o g w : Bool) → nought ≡ flow x o g w nought
flow-nought began o g w = refl
flow-nought (finished x y z) true g w = refl
flow-nought (finished x y z) false g w = refl
flow-nought lost o g w = refl
flow-nought (opened i) o g w = refl
flow-nought (gave v) o g w = refl
flow-nought (changed c) o g w = refl
flow-nought closed o true w = refl
flow-nought closed o false true = refl
flow-nought closed o false false = refl

-- of the first n conversions, all begun
tally-flow : {kind : Kind} (x : Happening kind) (n : ℕ) (h : List (Happening kind)) → n ≤ begun_in h → tally n (x ∷ h) ≡ flow x (open_in h) (whole_in h) (waits_in h) (tally n h)
tally-flow x zero h l = flow-nought x (open_in h) (whole_in h) (waits_in h)
tally-flow x (suc n) h l =
    rw (ne_eqb (suc n) (suc (begun_in h)) (λ e. omega arith))
    (ap₂ add (flows x (open_in h) (whole_in h) (waits_in h) (fate h (suc n))) (tally-flow x n h (omega arith))
    ∙ flow-add x (open_in h) (whole_in h) (waits_in h) (one (fate h (suc n))) (tally n h))

pub total : {kind : Kind} → List (Happening kind) → Counts
total h = tally (begun_in h) h

pub total-none : (kind : Kind) → total {kind = kind} [] ≡ nought
unfolding total
total-none kind = refl

pub total-flow : {kind : Kind} (x : Happening kind) (h : List (Happening kind)) → begun_in (x ∷ h) ≡ begun_in h → total (x ∷ h) ≡ flow x (open_in h) (whole_in h) (waits_in h) (total h)
unfolding total
total-flow x h e = rw e (tally-flow x (begun_in h) h (omega arith))

pub total-began : {kind : Kind} (h : List (Happening kind)) → total (began ∷ h) ≡ add one_runs (total h)
unfolding total
total-began h = rw (eq-eqb (suc (begun_in h)) (suc (begun_in h)) refl) (ap (add one_runs) (tally-flow began (begun_in h) h (omega arith)))

-- ---- the four places are read off it

reads-delivered : (p : Fate) → bit (sight_of p).delivered ≡ (one p).delivered
reads-delivered = every (λ p. bit (sight_of p).delivered ≡ (one p).delivered) refl refl refl refl refl refl refl refl

reads-overwritten : (p : Fate) → bit (sight_of p).overwritten ≡ (one p).overwritten
reads-overwritten = every (λ p. bit (sight_of p).overwritten ≡ (one p).overwritten) refl refl refl refl refl refl refl refl

reads-abandoned : (p : Fate) → bit (sight_of p).abandoned ≡ (one p).abandoned
reads-abandoned = every (λ p. bit (sight_of p).abandoned ≡ (one p).abandoned) refl refl refl refl refl refl refl refl

abbrev stays : Sight → ℕ
stays s = bit (is_present s.at && not s.delivered)

reads-standing : (p : Fate) → stays (sight_of p) ≡ (one p).running + (one p).waiting + (one p).unread
reads-standing = every (λ p. stays (sight_of p) ≡ (one p).running + (one p).waiting + (one p).unread) refl refl refl refl refl refl refl refl

-- of one conversion
record Placed {kind : Kind} (h : List (Happening kind)) (k : ℕ) (c : Counts) : Type 0 where
  pub delivered-is : bit (delivered h k) ≡ c.delivered
  pub overwritten-is : bit (overwritten h k) ≡ c.overwritten
  pub abandoned-is : bit (abandoned h k) ≡ c.abandoned
  pub standing-is : bit (standing h k) ≡ c.running + c.waiting + c.unread

placed : {kind : Kind} (h : List (Happening kind)) (k : ℕ) → Placed h k (one (fate h k))
placed h k = record {
  delivered-is = ap (λ (s : Sight). bit s.delivered) (agree h k) ∙ reads-delivered (fate h k);
  overwritten-is = ap (λ (s : Sight). bit s.overwritten) (agree h k) ∙ reads-overwritten (fate h k);
  abandoned-is = ap (λ (s : Sight). bit s.abandoned) (agree h k) ∙ reads-abandoned (fate h k);
  standing-is = ap bit (stands h k) ∙ ap stays (agree h k) ∙ reads-standing (fate h k);
}

-- of the first n
pub record Counted {kind : Kind} (n : ℕ) (h : List (Happening kind)) (c : Counts) : Type 0 where
  pub delivered-is : count n (delivered h) ≡ c.delivered
  pub overwritten-is : count n (overwritten h) ≡ c.overwritten
  pub abandoned-is : count n (abandoned h) ≡ c.abandoned
  pub standing-is : count n (standing h) ≡ c.running + c.waiting + c.unread

counted-to : {kind : Kind} (n : ℕ) (h : List (Happening kind)) → Counted n h (tally n h)
counted-to zero h = record { delivered-is = refl; overwritten-is = refl; abandoned-is = refl; standing-is = refl }
counted-to (suc n) h = let p = placed h (suc n) in let i = counted-to n h in record {
  delivered-is = ap₂ ◌+◌ p.delivered-is i.delivered-is;
  overwritten-is = ap₂ ◌+◌ p.overwritten-is i.overwritten-is;
  abandoned-is = ap₂ ◌+◌ p.abandoned-is i.abandoned-is;
  standing-is = omega arith;
}

pub counted : {kind : Kind} (h : List (Happening kind)) → Counted (begun_in h) h (total h)
unfolding total
counted h = counted-to (begun_in h) h

-- ---- each conversion begun is in exactly one place

abbrev weight : Counts → ℕ
weight t = t.delivered + t.overwritten + t.abandoned + (t.running + t.waiting + t.unread)

weight-flow : {kind : Kind} (x : Happening kind) (o g w : Bool) (t : Counts) → weight (flow x o g w t) ≡ weight t
weight-flow began o g w t = refl
weight-flow (finished x y z) true g w t = omega arith
weight-flow (finished x y z) false g w t = omega arith
weight-flow lost o g w t = omega arith
weight-flow (opened i) o g w t = refl
weight-flow (gave v) o g w t = refl
weight-flow (changed c) o g w t = refl
weight-flow closed o true w t = omega arith
weight-flow closed o false true t = omega arith
weight-flow closed o false false t = omega arith

begun-one : {kind : Kind} (h : List (Happening kind)) (k : ℕ) → 1 ≤ k → k ≤ begun_in h → weight (one (fate h k)) ≡ 1
begun-one [] k l m = absurd (omega arith)
begun-one {kind} (x ∷ h) k l m = go x m (eqb k (suc (begun_in h))) refl (begun-one h k l)
  where
    old : (x : Happening kind) → eqb k (suc (begun_in h)) ≡ false → weight (one (fate h k)) ≡ 1 → weight (one (fate (x ∷ h) k)) ≡ 1
    old x e i = rw e (rw (flows x (open_in h) (whole_in h) (waits_in h) (fate h k)) (weight-flow x (open_in h) (whole_in h) (waits_in h) (one (fate h k)) ∙ i))

    go : (x : Happening kind) → k ≤ begun_in (x ∷ h) → (b : Bool) → eqb k (suc (begun_in h)) ≡ b → (k ≤ begun_in h → weight (one (fate h k)) ≡ 1)
        → weight (one (fate (x ∷ h) k)) ≡ 1
    go began m true e i = rw e
    go began m false e i = old began e (i (omega (arith, eqb-false k (suc (begun_in h)) e)))
    go (finished x y z) m _ e i = old (finished x y z) (ne_eqb k (suc (begun_in h)) (λ q. omega arith)) (i m)
    go lost m _ e i = old lost (ne_eqb k (suc (begun_in h)) (λ q. omega arith)) (i m)
    go (opened a) m _ e i = i m
    go (gave v) m _ e i = i m
    go (changed c) m _ e i = i m
    go closed m _ e i = old closed (ne_eqb k (suc (begun_in h)) (λ q. omega arith)) (i m)

pub in_one : {kind : Kind} (h : List (Happening kind)) (k : ℕ) → 1 ≤ k → k ≤ begun_in h → places h k ≡ 1
in_one h k l m = let p = placed h k in let w = begun-one h k l m in omega arith

in-none : {kind : Kind} (h : List (Happening kind)) (k : ℕ) → fate h k ≡ Unbegun → places h k ≡ 0
in-none h k e = let p : Placed h k nought = rw e at (placed h k) in omega arith

pub none_above : {kind : Kind} (h : List (Happening kind)) (k : ℕ) → begun_in h < k → places h k ≡ 0
none_above h k l = in-none h k (above h k l)

pub none-zeroth : {kind : Kind} (h : List (Happening kind)) → places h 0 ≡ 0
none-zeroth h = in-none h 0 (zeroth h)

add-up : {kind : Kind} (n : ℕ) (h : List (Happening kind)) → n ≤ begun_in h → count n (delivered h) + count n (overwritten h) + count n (abandoned h) + count n (standing h) ≡ n
add-up zero h l = refl
add-up (suc n) h l = let i = add-up n h (omega arith) in let p = in_one h (suc n) (omega arith) l in omega arith

pub adds-up : {kind : Kind} (h : List (Happening kind))
    → count (begun_in h) (delivered h) + count (begun_in h) (overwritten h) + count (begun_in h) (abandoned h) + count (begun_in h) (standing h) ≡ begun_in h
adds-up h = add-up (begun_in h) h (omega arith)
