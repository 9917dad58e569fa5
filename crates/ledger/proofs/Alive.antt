-- A dead machine does not pass: from every state that a list of events leads to, the next conversion is run truly.
use Prim.Native.Nat.{ℕ, ◌+◌, ◌%◌, ◌≤◌, ◌<◌}
use mathlib.Core.Path.{◌≡◌, refl, sym, ap, ◌∙◌, subst}
use mathlib.Core.Bool.{Bool, true, false, true≢false}
use mathlib.Core.List.{List, [], ◌∷◌, ◌++◌}
use native.Mathlib.Omega.{arith}
use lib.ListN.{take}
use Rattle.std.specs.Prelude.{Option, None, Some}
use Rattle.paper.specs.Registers as reg
use Rattle.kinds.specs.declared.Kind.{Kind}
use Rattle.kinds.specs.Chips.{facts}
use Rattle.machine.specs.declared.Phase.{Phase}
use Rattle.machine.specs.declared.Phase.TheVariants.{Sleep, Standby}
use Rattle.machine.specs.declared.OpenBurst.{OpenBurst}
use Rattle.machine.specs.declared.Codes.{Codes}
use Rattle.machine.specs.declared.Device.{Device}
use Rattle.machine.specs.declared.Ledger.{Ledger}
use Rattle.machine.specs.declared.Outcome.{Outcome}
use Rattle.machine.specs.declared.Machine.{Machine}
use Rattle.machine.specs.Fields.{with_device, with_burst}
use Rattle.machine.specs.State.{fresh, runs, is_open, is_there, is_unread}
use Rattle.machine.specs.Counts.{begun_if, delivered_if, overwritten_if}
use Rattle.machine.specs.Control.{phase_after}
use Rattle.machine.specs.Events.{showing, delivering, waiting_shown, ended, whole_closing, awake, byte_given, closed}
use Rattle.machine.specs.declared.Event.{Event}
use Rattle.machine.specs.declared.Event.TheVariants.{Power, Copied}
use Rattle.machine.specs.Event.{next, answer, after}
use Rattle.ledger.specs.Happening.{Happening}
use Rattle.ledger.specs.Device.{device_in}
use Rattle.ledger.specs.Bytes.{data_bytes}
use Rattle.ledger.specs.History.{begun_in, open_in}
use Rattle.ledger.specs.Added.{added, added_after, history}
use Rattle.ledger.specs.Alive.{Turn, Fits, IsForced, codes_of, by_write, by_wake, measured, Begins, Delivers, MayBeginByWrite, WriteRunsTruly, MayBeginByWake, WakeRunsTruly}
use Rattle.ledger.specs.Alive.{LatchRunsTruly}
use Rattle.ledger.proofs.Book.{nonzero-pos}
use Rattle.ledger.proofs.Right.{none-waits}
use Rattle.ledger.proofs.Laid.{lays}
use Rattle.ledger.proofs.Kept.{kind-is, kept}
use Rattle.ledger.proofs.Theorems.{counts-are-true}
use Rattle.ledger.proofs.Tests.{passed}
use Rattle.ledger.proofs.Calm.{calm}
use Rattle.ledger.proofs.Turn.{begun, controlled_by, codes-by, uncopying, mode-runs, write-begins, write-latches, wake-begins, read-from, closes}

-- ---- the close of a turn

-- with none waiting only the burst ends
ends : (m : Machine) → is_there m.waiting ≡ false → ended m ≡ with_burst None m
unfolding waiting_shown
ends m w = ap (with_burst None) (passed (is_there m.waiting) _ m w)

-- the mark of the shown conversion, and the counts
pub closed_after : (kind : Kind) (m : Machine) (t : Turn) → is_there m.waiting ≡ false → (whole_closing (read-from m t kind)).machine ≡ with_burst None (delivering (read-from m t kind))
unfolding showing delivering
closed_after kind m t w = ends (delivering (read-from m t kind)) w

pub ledger-after : (kind : Kind) (m : Machine) (t : Turn) → is_there m.waiting ≡ false → 1 ≤ m.ledger.begun
    → (whole_closing (read-from m t kind)).machine.ledger ≡ delivered_if true (overwritten_if (is_unread m.shown) m.ledger)
unfolding showing delivering
ledger-after kind m t w some =
    let new : is_unread (read-from m t kind).shown ≡ true = rw (nonzero-pos m.ledger.begun some) in
    ap (λ (k : Machine). k.ledger) (closed_after kind m t w) ∙ ap (λ (b : Bool). delivered_if b (overwritten_if (is_unread m.shown) m.ledger)) new

one_more : (b : Bool) (l : Ledger) → l.delivered < reg.most_begun
    → ((delivered_if true (overwritten_if b l)).begun ≡ l.begun) × ((delivered_if true (overwritten_if b l)).delivered ≡ l.delivered + 1)
one_more true l p = (refl, omega arith)
one_more false l p = (refl, omega arith)

-- of a running machine
pub delivers : (kind : Kind) (m : Machine) (t : Turn) → m.device.kind ≡ kind → Fits kind t → runs m.device.phase ≡ true → m.device.held ≡ None
    → m.burst ≡ None → is_there m.waiting ≡ false → 1 ≤ m.ledger.begun → m.ledger.delivered < reg.most_begun
    → let x = closed (after m (measured kind t)) t.lent in Delivers kind m.ledger.begun (m.ledger.delivered + 1) m.device.codes t x.0 x.1
unfolding showing
delivers kind m t same f u n b w some space =
    let l = ledger-after kind m t w some in
    let o = one_more (is_unread m.shown) m.ledger space in
    subst (λ (x : Outcome × List ℕ). Delivers kind m.ledger.begun (m.ledger.delivered + 1) m.device.codes t x.0 x.1) (sym (closes m t kind same f u n b)) (record {
      answer-is = refl;
      whole_is = refl;
      number_is = refl;
      codes-are = refl;
      bytes-are = ap (take (facts kind).bytes) (lays (uncopying m).device t.temperature t.pressure t.humidity
          ∙ ap (λ (x : Kind). data_bytes x m.device.codes t.temperature t.pressure t.humidity) same);
      not-before = refl;
      begun-is = ap (λ (l : Ledger). l.begun) l ∙ o.0;
      delivered-is = ap (λ (l : Ledger). l.delivered) l ∙ o.1;
    })

-- ---- after every list of events

module _ (kind : Kind) (es : List Event) where
  abbrev now : Machine
  now = after (fresh kind) es

  abbrev h : List (Happening kind)
  h = history kind es

  -- what the history says of the machine
  pub phase-now : (p : Phase) → (device_in h).phase ≡ p → now.device.phase ≡ p
  phase-now p e = ap (λ (d : Device). d.phase) (kept kind es).device-is ∙ e

  pub copying-now : (b : Bool) → (device_in h).copying ≡ b → now.device.copying ≡ b
  copying-now b e = ap (λ (d : Device). d.copying) (kept kind es).device-is ∙ e

  pub closed-now : open_in h ≡ false → now.burst ≡ None
  closed-now o = at now.burst ((kept kind es).right.open_is ∙ o)
    where
      at : (b : Option OpenBurst) → is_open b ≡ false → b ≡ None
      at None e = refl
      at (Some b) e = absurd (true≢false e)

  pub room-now : begun_in h < reg.most_begun → now.ledger.begun < reg.most_begun
  room-now l = omega (arith, (kept kind es).right.begun-is)

  -- where no burst is open none waits
  pub none-waiting : now.burst ≡ None → is_there now.waiting ≡ false
  none-waiting b = let k = kept kind es in k.right.waits-is ∙ none-waits (history kind es) (sym k.right.open_is ∙ ap is_open b)

  pub kind-now : now.device.kind ≡ kind
  kind-now = kind-is (kept kind es)

  none-held : runs now.device.phase ≡ false → now.device.held ≡ None
  none-held = (kept kind es).tidy.none-held

  begun_more : now.ledger.begun < reg.most_begun → (begun_if true now.ledger).begun ≡ now.ledger.begun + 1
  begun_more l = omega arith

  -- a machine r that has just begun one more
  pub turns : (t : Turn) (r : Machine) (c : Codes) → r.device.kind ≡ kind → Fits kind t → runs r.device.phase ≡ true → r.device.held ≡ None → r.burst ≡ None
      → is_there r.waiting ≡ false → r.device.codes ≡ c → r.ledger.begun ≡ now.ledger.begun + 1 → r.ledger.delivered ≡ now.ledger.delivered → now.ledger.begun < reg.most_begun
      → let x = closed (after r (measured kind t)) t.lent in Delivers kind (now.ledger.begun + 1) (now.ledger.delivered + 1) c t x.0 x.1
  turns t r c same f u n b w q begun-is delivered-is l =
      let sum = (counts-are-true kind es).sum_is in
      rw (← begun-is, ← delivered-is, ← q) (delivers kind r t same f u n b w (omega arith) (omega arith))

  -- by a write, in the phase p
  writes : (p : Phase) → runs p ≡ false → (t : Turn) → Fits kind t → runs (phase_after p t.f4) ≡ true
      → now.device.phase ≡ p → now.device.copying ≡ false → now.burst ≡ None → now.ledger.begun < reg.most_begun → WriteRunsTruly kind now t
  writes p idle t f v q c b l =
      let r : Machine = begun now (controlled_by t now.device) in
      let e : after now (by_write t) ≡ r = write-begins now t p idle v l q c b in
      let u : runs r.device.phase ≡ true = rw q v in
      record {
        begins = subst (λ (k : Machine). Begins now k (codes_of kind t)) (sym e)
            (record { begun-is = begun_more l; runs-now = u; copying-now = rw u; codes-are = codes-by kind t now.device kind-now });
        delivers = subst (λ (k : Machine). let x = closed (after k (measured kind t)) t.lent in Delivers kind (now.ledger.begun + 1) (now.ledger.delivered + 1) (codes_of kind t) t x.0 x.1)
            (sym e) (turns t r (codes_of kind t) kind-now f u refl b (none-waiting b) (codes-by kind t now.device kind-now) (begun_more l) refl l);
      }

  -- forced or normal, by a write in sleep; forced, by a write in standby
  pub write-runs-truly : (t : Turn) → Fits kind t → MayBeginByWrite h t → WriteRunsTruly kind now t
  write-runs-truly t f a = writes Sleep refl t f (mode-runs Sleep t.f4 a.asks (λ _. refl))
      (phase-now Sleep a.sleeps) (copying-now false a.not-copying) (closed-now a.none_open) (room-now a.has_room)

  pub standby-runs-truly : (t : Turn) → Fits kind t → IsForced t → MayBeginByWake h → WriteRunsTruly kind now t
  standby-runs-truly t f i a =
      let y = phase-now Standby a.stands_by in
      writes Standby refl t f (mode-runs Standby t.f4 i.not-sleep (λ e. absurd (i.not-normal e))) y (calm kind es y) (closed-now a.none_open) (room-now a.has_room)

  -- normal, by a wake, with the codes that the history has latched
  pub wake-runs-truly : (t : Turn) → Fits kind t → MayBeginByWake h → WakeRunsTruly kind now (device_in h).codes t
  wake-runs-truly t f a =
      let l = room-now a.has_room in
      let y = phase-now Standby a.stands_by in
      let o = closed-now a.none_open in
      let c : Codes = (device_in h).codes in
      let c-is : now.device.codes ≡ c = ap (λ (d : Device). d.codes) (kept kind es).device-is in
      let e : after now by_wake ≡ awake now = wake-begins now y l in
      record {
        begins = subst (λ (k : Machine). Begins now k c) (sym e) (record { begun-is = begun_more l; runs-now = refl; copying-now = refl; codes-are = c-is });
        delivers = subst (λ (k : Machine). let x = closed (after k (measured kind t)) t.lent in Delivers kind (now.ledger.begun + 1) (now.ledger.delivered + 1) c t x.0 x.1)
            (sym e) (turns t (awake now) c kind-now f refl (none-held (ap runs y)) o (none-waiting o) c-is (begun_more l) refl l);
      }

  -- normal, by a wake after a write in standby
  pub latch-runs-truly : (t : Turn) → Fits kind t → t.f4 % 4 ≡ 3 → MayBeginByWake h → LatchRunsTruly kind now t
  latch-runs-truly t f i a =
      let l = room-now a.has_room in
      let y = phase-now Standby a.stands_by in
      let o = closed-now a.none_open in
      let s : phase_after Standby t.f4 ≡ Standby = rw i in
      let k : Machine = with_device (controlled_by t now.device) now in
      let k-is : after now (by_write t) ≡ k = write-latches now t Standby refl (ap runs s) y (calm kind es y) o in
      let stands_by : k.device.phase ≡ Standby = rw y s in
      let e : after now (by_write t ++ by_wake) ≡ awake k = ap (λ (k : Machine). after k by_wake) k-is ∙ wake-begins k stands_by l in
      record {
        stands_by = ap (λ (k : Machine). k.device.phase) k-is ∙ stands_by;
        none-begins = ap (λ (k : Machine). k.ledger) k-is;
        begins = subst (λ (k : Machine). Begins now k (codes_of kind t)) (sym e)
            (record { begun-is = begun_more l; runs-now = refl; copying-now = refl; codes-are = codes-by kind t now.device kind-now });
        delivers = subst (λ (k : Machine). let x = closed (after k (measured kind t)) t.lent in Delivers kind (now.ledger.begun + 1) (now.ledger.delivered + 1) (codes_of kind t) t x.0 x.1)
            (sym e) (turns t (awake k) (codes_of kind t) kind-now f refl refl o (none-waiting o) (codes-by kind t now.device kind-now) (begun_more l) refl l);
      }

-- and no state is without a way on: after power and the end of copying a write begins the next
pub after-append : (m : Machine) (es fs : List Event) → after m (es ++ fs) ≡ after (after m es) fs
after-append m [] fs = refl
after-append m (e ∷ es) fs = after-append (next m e) es fs

pub added-append : {kind : Kind} (m : Machine) (h : List (Happening kind)) (es fs : List Event) → added_after m h (es ++ fs) ≡ added_after (after m es) (added_after m h es) fs
added-append m h [] fs = refl
added-append m h (e ∷ es) fs = added-append (next m e) (added (answer m e) h e (byte_given m).value ++ h) es fs

pub power-leads-on : (kind : Kind) (es : List Event) (t : Turn) → Fits kind t → (t.f4 % 4 ≡ 0 → ⊥) → begun_in (history kind es) < reg.most_begun
    → WriteRunsTruly kind (after (fresh kind) (es ++ Power ∷ Copied ∷ [])) t
power-leads-on kind es t f z l =
    write-runs-truly kind (es ++ Power ∷ Copied ∷ []) t f
    (subst (λ (h : List (Happening kind)). MayBeginByWrite h t) (sym (added-append (fresh kind) [] es (Power ∷ Copied ∷ [])))
    (record { sleeps = refl; not-copying = refl; none_open = refl; has_room = l; asks = z }))
