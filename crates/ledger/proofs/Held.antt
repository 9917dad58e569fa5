-- An F4 that is held while a conversion runs takes effect when that one finishes: it begins the next, or sets the codes of the next wake.
use Prim.Native.Nat.{ℕ, ◌+◌, ◌<◌}
use mathlib.Core.Path.{◌≡◌, refl, sym, ap, ◌∙◌, subst}
use mathlib.Core.Bool.{Bool, true, false, not}
use mathlib.Core.List.{List, ◌∷◌, ◌++◌}
use native.Mathlib.Omega.{arith}
use Rattle.std.specs.Prelude.{None}
use Rattle.laws.specs.Choices.{pick}
use Rattle.paper.specs.Numbers.{done, burst_is_open, address_not_allowed}
use Rattle.paper.specs.Registers as reg
use Rattle.kinds.specs.declared.Kind.{Kind}
use Rattle.machine.specs.declared.Phase.TheVariants.{Forced, Normal, Standby}
use Rattle.machine.specs.declared.Codes.{Codes}
use Rattle.machine.specs.declared.Device.{Device}
use Rattle.machine.specs.declared.Ledger.{Ledger}
use Rattle.machine.specs.declared.Machine.{Machine}
use Rattle.machine.specs.declared.Outcome.{Outcome}
use Rattle.machine.specs.Fields.{with_device, with_burst, with_ledger}
use Rattle.machine.specs.State.{fresh, runs, is_forced, is_open, is_there, is_unread}
use Rattle.machine.specs.Counts.{begun_if, overwritten_if}
use Rattle.machine.specs.Control.{phase_after, latched, controlled}
use Rattle.machine.specs.Events.{answered, rested, showing, awake, closed, burst_at}
use Rattle.machine.specs.declared.Event.{Event}
use Rattle.machine.specs.declared.Event.TheVariants.{Open}
use Rattle.machine.specs.Event.{next, after}
use Rattle.machine.proofs.Bmp280.{rested-kind}
use Rattle.ledger.specs.Device.{is_converting}
use Rattle.ledger.specs.Added.{history}
use Rattle.ledger.specs.Alive.{Turn, Fits, codes_of, by_write, by_wake, finish, measured, Begins, Delivers}
use Rattle.ledger.specs.Alive.{MayHold, BeginsHeld, LatchesHeld, IsHeld, HeldRunsTruly, HeldLatchRunsTruly}
use Rattle.ledger.proofs.Tests.{passed}
use Rattle.ledger.proofs.Tidy.{overwritten-begun, landed-begun}
use Rattle.ledger.proofs.Turn.{codes-by, mode-runs, uncopying, holding, write-holds, wake-begins, landed-with, done-with, lands-shown, finish-takes}
use Rattle.ledger.proofs.Control.{runs-is}
use Rattle.ledger.proofs.Kept.{kept}
use Rattle.ledger.proofs.Alive.{phase-now, closed-now, room-now, none-waiting, kind-now, turns}

overwritten-delivered : (b : Bool) (l : Ledger) → (overwritten_if b l).delivered ≡ l.delivered
overwritten-delivered true l = refl
overwritten-delivered false l = refl

-- a device that rests latches what it would have latched
rested-codes : (d : Device) (v : ℕ) (c : Codes) → latched d v ≡ c → latched (rested d) v ≡ c
rested-codes d v c e = pick (λ (k : Device). latched k v ≡ c) (is_forced d.phase) (λ _. e) (λ _. e)

module _ (kind : Kind) (es : List Event) (s t : Turn) (g : Fits kind s) (f : Fits kind t) (a : MayHold (history kind es)) where
  abbrev now : Machine
  now = after (fresh kind) es

  running : runs now.device.phase ≡ true
  running = runs-is now.device.phase ∙ ap (λ (d : Device). is_converting d.phase) (kept kind es).device-is ∙ a.runs-now

  not-held : now.device.held ≡ None
  not-held = ap (λ (d : Device). d.held) (kept kind es).device-is ∙ a.none-held

  none_open : now.burst ≡ None
  none_open = closed-now kind es a.none_open

  room : now.ledger.begun < reg.most_begun
  room = room-now kind es a.has_room

  -- once copying has ended
  abbrev k : Machine
  k = uncopying (holding now t)

  holds : after now (by_write t) ≡ holding now t
  holds = write-holds now t running not-held none_open

  is_held : IsHeld now t
  is_held = record { none-begins = ap (λ (k : Machine). k.ledger) holds; codes-stay = ap (λ (k : Machine). k.device.codes) holds }

  -- the codes are those of F2 at the finish
  held-codes : latched (rested k.device) t.f4 ≡ codes_of kind t
  held-codes = rested-codes k.device t.f4 (codes_of kind t) (codes-by kind t now.device (kind-now kind es))

  -- after the finish, from a machine j, where one begins (b) or none
  abbrev taken : Bool → Machine → Machine
  taken b j = with_device (controlled (rested k.device) t.f4) (with_ledger (begun_if b j.ledger) j)

  begins-from : (j : Machine) → j.ledger.begun ≡ now.ledger.begun → runs (phase_after (rested k.device).phase t.f4) ≡ true → Begins now (taken true j) (codes_of kind t)
  begins-from j e u = record { begun-is = omega (arith, room); runs-now = u; copying-now = rw u; codes-are = held-codes }

  finishes : (b : Bool) → runs (phase_after (rested k.device).phase t.f4) ≡ b → after now (by_write t ++ finish s) ≡ taken b (done-with k s)
  finishes b e =
      ap (λ (k : Machine). after k (finish s)) holds ∙ finish-takes (holding now t) s g running t.f4 refl b e room
      ∙ ap (taken b) (lands-shown k s none_open)

  done-begun : (done-with k s).ledger.begun ≡ now.ledger.begun
  unfolding showing
  done-begun = overwritten-begun (is_unread now.shown) now.ledger

  -- r, which runs, has what the finish left, and one more begun
  delivers-from : (r : Machine) → r.device.kind ≡ now.device.kind → runs r.device.phase ≡ true → r.device.codes ≡ codes_of kind t → r.device.held ≡ None
      → r.burst ≡ (done-with k s).burst → r.waiting ≡ (done-with k s).waiting → r.ledger ≡ begun_if true (done-with k s).ledger
      → let x = closed (after r (measured kind t)) t.lent in Delivers kind (now.ledger.begun + 1) (now.ledger.delivered + 1) (codes_of kind t) t x.0 x.1
  unfolding showing
  delivers-from r same u c n b w l =
      turns kind es t r (codes_of kind t) (same ∙ kind-now kind es) f u n (b ∙ none_open) (ap is_there w ∙ none-waiting kind es none_open) c
      (ap (λ (l : Ledger). l.begun) l ∙ omega (arith, done-begun, room))
      (ap (λ (l : Ledger). l.delivered) l ∙ overwritten-delivered (is_unread now.shown) now.ledger) room

  -- ---- it begins

  pub held-runs-truly : BeginsHeld (history kind es) t → HeldRunsTruly kind now s t
  held-runs-truly q =
      let u : runs (phase_after (rested k.device).phase t.f4) ≡ true = mode-runs (rested k.device).phase t.f4 q.not-sleep (λ e. rw (phase-now kind es Forced (q.from-forced e))) in
      let r : Machine = taken true (done-with k s) in
      let e : after now (by_write t ++ finish s) ≡ r = finishes true u in
      record {
        is_held = is_held;
        begins = subst (λ (k : Machine). Begins now k (codes_of kind t)) (sym e) (begins-from (done-with k s) done-begun u);
        begins-in-burst = λ i w. subst (λ (k : Machine). Begins now k (codes_of kind t)) (sym (in-burst i w u))
            (begins-from (landed-with (with_burst (burst_at i i) k) s) (landed-begun (with_burst (burst_at i i) k) _) u);
        delivers = subst (λ (k : Machine). let x = closed (after k (measured kind t)) t.lent in Delivers kind (now.ledger.begun + 1) (now.ledger.delivered + 1) (codes_of kind t) t x.0 x.1)
            (sym e) (delivers-from r (rested-kind k.device) u held-codes refl refl refl refl);
      }
    where
      opens : (i : ℕ) → reg.is_readable i ≡ true → next (holding now t) (Open i) ≡ with_burst (burst_at i i) (holding now t)
      opens i w =
          ap (λ (o : Outcome). o.machine)
          (passed (is_open now.burst) (answered burst_is_open (holding now t)) _ (ap is_open none_open)
          ∙ passed (not (reg.is_readable i)) (answered address_not_allowed (holding now t)) (answered done (with_burst (burst_at i i) (holding now t))) (ap not w))

      in-burst : (i : ℕ) → reg.is_readable i ≡ true → runs (phase_after (rested k.device).phase t.f4) ≡ true
          → after now (by_write t ++ Open i ∷ finish s) ≡ taken true (landed-with (with_burst (burst_at i i) k) s)
      in-burst i w u =
          ap (λ (k : Machine). after (next k (Open i)) (finish s)) holds ∙ ap (λ (k : Machine). after k (finish s)) (opens i w)
          ∙ finish-takes (with_burst (burst_at i i) (holding now t)) s g running t.f4 refl true u room

  -- ---- it sets the codes of the next wake

  pub held-latch-runs-truly : LatchesHeld (history kind es) t → HeldLatchRunsTruly kind now s t
  held-latch-runs-truly q =
      let p : phase_after (rested k.device).phase t.f4 ≡ Standby = rw (phase-now kind es Normal q.from-normal, q.normal) in
      let j : Machine = taken false (done-with k s) in
      let j-is : after now (by_write t ++ finish s) ≡ j = finishes false (ap runs p) in
      let e : after now (by_write t ++ finish s ++ by_wake) ≡ awake j = ap (λ (k : Machine). after k by_wake) j-is ∙ wake-begins j p (omega (arith, done-begun, room)) in
      record {
        is_held = is_held;
        none-begins = ap (λ (k : Machine). k.ledger.begun) j-is ∙ done-begun;
        begins = subst (λ (k : Machine). Begins now k (codes_of kind t)) (sym e)
            (record { begun-is = omega (arith, done-begun, room); runs-now = refl; copying-now = refl; codes-are = held-codes });
        delivers = subst (λ (k : Machine). let x = closed (after k (measured kind t)) t.lent in Delivers kind (now.ledger.begun + 1) (now.ledger.delivered + 1) (codes_of kind t) t x.0 x.1)
            (sym e) (delivers-from (awake j) (rested-kind k.device) refl held-codes refl refl refl refl);
      }
