-- Turn after turn from the fresh state, in forced mode and in normal mode: the tally is theirs, and each close shows its own conversion.
use Prim.Native.Nat.{ℕ, ◌+◌, ◌%◌, ◌≤◌, ◌<◌}
use mathlib.Core.Path.{◌≡◌, refl, sym, ap, ◌∙◌, subst}
use mathlib.Core.Bool.{Bool, true, false, cond, and-not_self}
use mathlib.Core.List.{List, [], ◌∷◌, ◌++◌}
use native.Mathlib.Omega.{arith}
use lib.Dec.{eqb}
use lib.ListN.{length}
use borrow.Author.Tests.{eq-eqb, ne_eqb}
use Rattle.std.specs.Prelude.{None}
use Rattle.laws.specs.Choices.{pick}
use Rattle.paper.specs.Registers as reg
use Rattle.kinds.specs.declared.Kind.{Kind}
use Rattle.machine.specs.declared.Phase.{Phase}
use Rattle.machine.specs.declared.Phase.TheVariants.{Sleep, Forced, Normal, Standby}
use Rattle.machine.specs.declared.Codes.{Codes}
use Rattle.machine.specs.declared.Device.{Device}
use Rattle.machine.specs.declared.Ledger.{Ledger}
use Rattle.machine.specs.declared.Outcome.{Outcome}
use Rattle.machine.specs.declared.Machine.{Machine}
use Rattle.machine.specs.Fields.{with_copying, with_burst}
use Rattle.machine.specs.State.{fresh, runs, is_forced, is_there, is_unread}
use Rattle.machine.specs.Counts.{begun_if, delivered_if, overwritten_if}
use Rattle.machine.specs.Control.{phase_after}
use Rattle.machine.specs.Events.{rested, showing, delivering, whole_closing, awake, closed}
use Rattle.machine.specs.declared.Event.TheVariants.{Copied, Close}
use Rattle.machine.specs.Event.{next, after}
use Rattle.machine.proofs.Bmp280.{rested-kind}
use Rattle.ledger.specs.Alive.{Turn, Fits, IsForced, codes_of, by_write, by_wake, measured, Delivers}
use Rattle.ledger.specs.Alive.{forced_turns, AllForced, woken_turns, normal_turns, AllFit, all_delivered, ForcedTurnsRunTruly, NormalTurnsRunTruly}
use Rattle.ledger.proofs.Book.{same-ledger}
use Rattle.ledger.proofs.Turn.{begun, controlled_by, codes-by, uncopying, mode-runs, write-begins, wake-begins, read-from, closes}
use Rattle.ledger.proofs.Alive.{closed_after, ledger-after, delivers, after-append}

-- between two turns of a kind of part: n have begun, all are delivered, and nothing is in the machine but the last one, read
record Rests (kind : Kind) (p : Phase) (n : ℕ) (m : Machine) : Type 0 where
  pub kind-is : m.device.kind ≡ kind
  pub phase-is : m.device.phase ≡ p
  pub copying-is : m.device.copying ≡ false
  pub held-is : m.device.held ≡ None
  pub none_open : m.burst ≡ None
  pub none-waits : is_there m.waiting ≡ false
  pub none-unread : is_unread m.shown ≡ false
  pub ledger-is : m.ledger ≡ all_delivered n

-- in a turn: one more has begun, and runs
record Runs (kind : Kind) (n : ℕ) (m : Machine) : Type 0 where
  pub kind-is : m.device.kind ≡ kind
  pub runs-now : runs m.device.phase ≡ true
  pub held-is : m.device.held ≡ None
  pub none_open : m.burst ≡ None
  pub none-waits : is_there m.waiting ≡ false
  pub none-unread : is_unread m.shown ≡ false
  pub ledger-is : m.ledger ≡ begun_if true (all_delivered n)

abbrev ended : Kind → Machine → Turn → Machine
ended kind m t = (closed (after m (measured kind t)) t.lent).0.machine

one_more : (n : ℕ) → n < reg.most_begun → delivered_if true (begun_if true (all_delivered n)) ≡ all_delivered (n + 1)
one_more n l = same-ledger (omega arith) (omega arith) refl refl refl

module _ (kind : Kind) (n : ℕ) (l : n < reg.most_begun) (m : Machine) (t : Turn) (f : Fits kind t) (r : Runs kind n m) where
  begun-is : m.ledger.begun ≡ n + 1
  begun-is = ap (λ (l : Ledger). l.begun) r.ledger-is ∙ omega arith

  ends_as : ended kind m t ≡ with_burst None (delivering (read-from m t kind))
  ends_as = ap (λ (x : Outcome × List ℕ). x.0.machine) (closes m t kind r.kind-is f r.runs-now r.held-is r.none_open) ∙ closed_after kind m t r.none-waits

  codes-end : (ended kind m t).device.codes ≡ m.device.codes
  unfolding showing delivering
  codes-end =
      ap (λ (k : Machine). k.device.codes) ends_as
      ∙ pick (λ (d : Device). d.codes ≡ m.device.codes) (is_forced m.device.phase) (λ _. refl) (λ _. refl)

  ledger-ends : (whole_closing (read-from m t kind)).machine.ledger ≡ all_delivered (n + 1)
  ledger-ends =
      ledger-after kind m t r.none-waits (omega (arith, begun-is))
      ∙ ap (λ (b : Bool). delivered_if true (overwritten_if b m.ledger)) r.none-unread ∙ ap (delivered_if true) r.ledger-is ∙ one_more n l

  rests : (p : Phase) → (rested (uncopying m).device).phase ≡ p → Rests kind p (n + 1) (ended kind m t)
  unfolding showing delivering
  rests p e = subst (Rests kind p (n + 1)) (sym ends_as) (record {
    kind-is = rested-kind (uncopying m).device ∙ r.kind-is;
    phase-is = e;
    copying-is = pick (λ (d : Device). d.copying ≡ false) (is_forced m.device.phase) (λ _. refl) (λ _. refl);
    held-is = pick (λ (d : Device). d.held ≡ None) (is_forced m.device.phase) (λ _. r.held-is) (λ _. r.held-is);
    none_open = refl;
    none-waits = r.none-waits;
    none-unread = and-not_self (is_there (read-from m t kind).shown);
    ledger-is = sym (ap (λ (k : Machine). k.ledger) (closed_after kind m t r.none-waits)) ∙ ledger-ends;
  })

  shows : (c : Codes) → m.device.codes ≡ c → let x = closed (after m (measured kind t)) t.lent in Delivers kind (n + 1) (n + 1) c t x.0 x.1
  shows c e =
      let delivered-is : m.ledger.delivered ≡ n = ap (λ (l : Ledger). l.delivered) r.ledger-is in
      rw (← e) (subst (λ (k : ℕ). let x = closed (after m (measured kind t)) t.lent in Delivers kind k (n + 1) m.device.codes t x.0 x.1) begun-is
      (subst (λ (k : ℕ). let x = closed (after m (measured kind t)) t.lent in Delivers kind m.ledger.begun (k + 1) m.device.codes t x.0 x.1) delivered-is
      (delivers kind m t r.kind-is f r.runs-now r.held-is r.none_open r.none-waits (omega (arith, begun-is)) (omega arith))))

-- ---- how a turn begins

module _ (kind : Kind) (n : ℕ) (l : n < reg.most_begun) (m : Machine) where
  room : (p : Phase) → Rests kind p n m → m.ledger.begun < reg.most_begun
  room p r = omega (arith, ap (λ (l : Ledger). l.begun) r.ledger-is)

  -- a write in sleep
  abbrev written : Turn → Machine
  written t = begun m (controlled_by t m.device)

  writes : (t : Turn) → (t.f4 % 4 ≡ 0 → ⊥) → Rests kind Sleep n m → after m (by_write t) ≡ written t
  writes t z r = write-begins m t Sleep refl (mode-runs Sleep t.f4 z (λ _. refl)) (room Sleep r) r.phase-is r.copying-is r.none_open

  write-runs : (t : Turn) → (t.f4 % 4 ≡ 0 → ⊥) → Rests kind Sleep n m → Runs kind n (written t)
  write-runs t z r = record {
    kind-is = r.kind-is;
    runs-now = rw r.phase-is (mode-runs Sleep t.f4 z (λ _. refl));
    held-is = refl;
    none_open = r.none_open;
    none-waits = r.none-waits;
    none-unread = r.none-unread;
    ledger-is = ap (begun_if true) r.ledger-is;
  }

  -- a wake in standby
  wake-runs : Rests kind Standby n m → Runs kind n (awake m)
  wake-runs r = record {
    kind-is = r.kind-is;
    runs-now = refl;
    held-is = r.held-is;
    none_open = r.none_open;
    none-waits = r.none-waits;
    none-unread = r.none-unread;
    ledger-is = ap (begun_if true) r.ledger-is;
  }

-- forced goes back to sleep, normal to standby
rests-as : (d : Device) (b : Bool) → is_forced d.phase ≡ b → (rested d).phase ≡ cond b Sleep Standby
rests-as d true e = rw e
rests-as d false e = rw e

enters-as : (v : ℕ) (b : Bool) → (v % 4 ≡ 0 → ⊥) → eqb (v % 4) 3 ≡ b → phase_after Sleep v ≡ cond b Normal Forced
enters-as v b z e =
    ap (λ (c : Bool). cond c Sleep (cond (eqb (v % 4) 3) Normal Forced)) (ne_eqb (v % 4) 0 z) ∙ ap (λ (c : Bool). cond c Normal Forced) e

rests-forced : (d : Device) (t : Turn) → d.phase ≡ Sleep → IsForced t → (rested (with_copying false (controlled_by t d))).phase ≡ Sleep
rests-forced d t e f =
    rests-as (with_copying false (controlled_by t d)) true (rw e (ap is_forced (enters-as t.f4 false f.not-sleep (ne_eqb (t.f4 % 4) 3 f.not-normal))))

rests-normal : (d : Device) (t : Turn) → d.phase ≡ Sleep → t.f4 % 4 ≡ 3 → (rested (with_copying false (controlled_by t d))).phase ≡ Standby
rests-normal d t e f =
    rests-as (with_copying false (controlled_by t d)) false (rw e (ap is_forced (enters-as t.f4 true (λ z. omega arith) (eq-eqb (t.f4 % 4) 3 f))))

-- ---- one turn

module _ (kind : Kind) (n : ℕ) (l : n < reg.most_begun) (m : Machine) (t : Turn) (f : Fits kind t) where
  write-turn : (p : Phase) → (t.f4 % 4 ≡ 0 → ⊥) → (rested (with_copying false (controlled_by t m.device))).phase ≡ p → Rests kind Sleep n m
      → Rests kind p (n + 1) (next (after m (by_write t ++ measured kind t)) (Close (length t.lent)))
  write-turn p z e r = subst (λ (k : Machine). Rests kind p (n + 1) (ended kind k t)) (sym (writes kind n l m t z r)) (rests kind n l (written kind n l m t) t f (write-runs kind n l m t z r) p e)

  wake-turn : Rests kind Standby n m → Rests kind Standby (n + 1) (next (after m (by_wake ++ measured kind t)) (Close (length t.lent)))
  wake-turn r = subst (λ (k : Machine). Rests kind Standby (n + 1) (ended kind k t)) (sym (wake-begins m r.phase-is (room kind n l m Standby r)))
      (rests kind n l (awake m) t f (wake-runs kind n l m r) Standby refl)

  -- a wake keeps the codes
  wake-keeps : Rests kind Standby n m → (next (after m (by_wake ++ measured kind t)) (Close (length t.lent))).device.codes ≡ m.device.codes
  wake-keeps r = ap (λ (k : Machine). (ended kind k t).device.codes) (wake-begins m r.phase-is (room kind n l m Standby r)) ∙ codes-end kind n l (awake m) t f (wake-runs kind n l m r)

  -- a write sets its own codes
  write-sets : (t.f4 % 4 ≡ 0 → ⊥) → Rests kind Sleep n m → (next (after m (by_write t ++ measured kind t)) (Close (length t.lent))).device.codes ≡ codes_of kind t
  write-sets z r = ap (λ (k : Machine). (ended kind k t).device.codes) (writes kind n l m t z r) ∙ codes-end kind n l (written kind n l m t) t f (write-runs kind n l m t z r)
      ∙ codes-by kind t m.device r.kind-is

  write-shows : (t.f4 % 4 ≡ 0 → ⊥) → Rests kind Sleep n m
      → let x = closed (after m (by_write t ++ measured kind t)) t.lent in Delivers kind (n + 1) (n + 1) (codes_of kind t) t x.0 x.1
  write-shows z r =
      subst (λ (k : Machine). let x = closed (after k (measured kind t)) t.lent in Delivers kind (n + 1) (n + 1) (codes_of kind t) t x.0 x.1) (sym (writes kind n l m t z r))
      (shows kind n l (written kind n l m t) t f (write-runs kind n l m t z r) (codes_of kind t) (codes-by kind t m.device r.kind-is))

  wake-shows : (c : Codes) → m.device.codes ≡ c → Rests kind Standby n m
      → let x = closed (after m (by_wake ++ measured kind t)) t.lent in Delivers kind (n + 1) (n + 1) c t x.0 x.1
  wake-shows c e r =
      subst (λ (k : Machine). let x = closed (after k (measured kind t)) t.lent in Delivers kind (n + 1) (n + 1) c t x.0 x.1)
      (sym (wake-begins m r.phase-is (room kind n l m Standby r))) (shows kind n l (awake m) t f (wake-runs kind n l m r) c e)

-- ---- turn after turn

after-forced : (kind : Kind) (ts : List Turn) (n : ℕ) (m : Machine) → AllForced kind ts → n + length ts ≤ reg.most_begun → Rests kind Sleep n m
    → Rests kind Sleep (n + length ts) (after m (forced_turns kind ts))
after-forced kind [] n m a l r = subst (λ (k : ℕ). Rests kind Sleep k m) (omega arith) r
after-forced kind (t ∷ ts) n m a l r =
    let k : Machine = next (after m (by_write t ++ measured kind t)) (Close (length t.lent)) in
    let z : t.f4 % 4 ≡ 0 → ⊥ = a.1.not-sleep in
    let i : Rests kind Sleep (n + 1) k = write-turn kind n (omega arith) m t a.0 Sleep z (rests-forced m.device t r.phase-is a.1) r in
    let turn = after-append m (by_write t ++ measured kind t) (Close (length t.lent) ∷ forced_turns kind ts) in
    subst (Rests kind Sleep (n + length (t ∷ ts))) (sym turn)
    (subst (λ (j : ℕ). Rests kind Sleep j (after k (forced_turns kind ts))) (omega arith) (after-forced kind ts (n + 1) k a.2 (omega arith) i))

-- in normal mode with the codes c
record Woken (kind : Kind) (c : Codes) (n : ℕ) (m : Machine) : Type 0 where
  pub stands_by : Rests kind Standby n m
  pub codes-are : m.device.codes ≡ c

after-woken : (kind : Kind) (ts : List Turn) (c : Codes) (n : ℕ) (m : Machine) → AllFit kind ts → n + length ts ≤ reg.most_begun → Woken kind c n m
    → Woken kind c (n + length ts) (after m (woken_turns kind ts))
after-woken kind [] c n m a l r = subst (λ (k : ℕ). Woken kind c k m) (omega arith) r
after-woken kind (t ∷ ts) c n m a l r =
    let k : Machine = next (after m (by_wake ++ measured kind t)) (Close (length t.lent)) in
    let i : Woken kind c (n + 1) k = record {
      stands_by = wake-turn kind n (omega arith) m t a.0 r.stands_by;
      codes-are = wake-keeps kind n (omega arith) m t a.0 r.stands_by ∙ r.codes-are;
    } in
    let turn = after-append m (by_wake ++ measured kind t) (Close (length t.lent) ∷ woken_turns kind ts) in
    subst (Woken kind c (n + length (t ∷ ts))) (sym turn)
    (subst (λ (j : ℕ). Woken kind c j (after k (woken_turns kind ts))) (omega arith) (after-woken kind ts c (n + 1) k a.1 (omega arith) i))

-- ---- from the fresh state

copied : Kind → Machine
copied kind = after (fresh kind) (Copied ∷ [])

copied-rests : (kind : Kind) → Rests kind Sleep 0 (copied kind)
unfolding copied
copied-rests kind = record { kind-is = refl; phase-is = refl; copying-is = refl; held-is = refl; none_open = refl; none-waits = refl; none-unread = refl; ledger-is = refl }

pub forced-turns-run-truly : (kind : Kind) (ts : List Turn) → AllForced kind ts → length ts ≤ reg.most_begun → ForcedTurnsRunTruly kind (after (fresh kind) (Copied ∷ forced_turns kind ts)) (length ts)
unfolding copied
forced-turns-run-truly kind ts a l =
    let r : Rests kind Sleep (length ts) (after (copied kind) (forced_turns kind ts)) =
    subst (λ (k : ℕ). Rests kind Sleep k (after (copied kind) (forced_turns kind ts))) (omega arith) (after-forced kind ts 0 (copied kind) a (omega arith) (copied-rests kind)) in
    record { tally-is = r.ledger-is; next-is = λ t f m n. write-shows kind (length ts) n (after (copied kind) (forced_turns kind ts)) t f m.not-sleep r }

pub normal-turns-run-truly : (kind : Kind) (t : Turn) (ts : List Turn) → Fits kind t → t.f4 % 4 ≡ 3 → AllFit kind ts → 1 + length ts ≤ reg.most_begun
    → NormalTurnsRunTruly kind (after (fresh kind) (Copied ∷ normal_turns kind t ts)) (1 + length ts) (codes_of kind t)
unfolding copied
normal-turns-run-truly kind t ts f e a l =
    let z : t.f4 % 4 ≡ 0 → ⊥ = λ q. omega arith in
    let k : Machine = next (after (copied kind) (by_write t ++ measured kind t)) (Close (length t.lent)) in
    let first : Woken kind (codes_of kind t) 1 k = record {
      stands_by = write-turn kind 0 (omega arith) (copied kind) t f Standby z (rests-normal (copied kind).device t refl e) (copied-rests kind);
      codes-are = write-sets kind 0 (omega arith) (copied kind) t f z (copied-rests kind);
    } in
    let r = after-woken kind ts (codes_of kind t) 1 k a l first in
    let turn = after-append (copied kind) (by_write t ++ measured kind t) (Close (length t.lent) ∷ woken_turns kind ts) in
    subst (λ (x : Machine). NormalTurnsRunTruly kind x (1 + length ts) (codes_of kind t)) (sym turn)
    (record { tally-is = r.stands_by.ledger-is; next-is = λ u f n. wake-shows kind (1 + length ts) n (after k (woken_turns kind ts)) u f (codes_of kind t) r.codes-are r.stands_by })
