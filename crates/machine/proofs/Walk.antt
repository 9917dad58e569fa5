-- The one walk over the rules of the eight events: each is refused for a reason, or done under its conditions. What a predicate says of these it says of
-- every event, so that a change of the rules is met here alone.
use Prim.Native.Nat.{ℕ, ◌+◌, ◌*◌, ◌/◌, ◌%◌}
use mathlib.Core.Path.{◌≡◌, refl, sym, subst}
use mathlib.Core.Bool.{Bool, true, false, not, ◌&&◌, ◌||◌, false≢true}
use lib.Dec.{eqb, ltb}
use borrow.Author.Tests.{eqb-true, not-true, not-false}
use Rattle.std.specs.Prelude.{Option, None, Some}
use Rattle.laws.specs.Choices.{pick}
use Rattle.laws.specs.Tests.{both}
use Rattle.paper.specs.Numbers.{done, ignored, wrong_length, burst_is_open, address_not_allowed, still_copying, wrong_phase, out_of_range, all_begun}
use Rattle.paper.specs.Registers as reg
use Rattle.kinds.specs.declared.Kind.{Kind}
use Rattle.kinds.specs.Chips.{facts, is_writable}
use Rattle.machine.specs.declared.OpenBurst.{OpenBurst}
use Rattle.machine.specs.declared.Machine.{Machine}
use Rattle.machine.specs.declared.Event.{Event}
use Rattle.machine.specs.declared.Event.TheVariants.{Power, Copied, Write, Finish, Wake, Open, Byte, Close}
use Rattle.machine.specs.declared.Outcome.{Outcome}
use Rattle.machine.specs.Fields.{with_copying, with_f2, with_f5, with_held, with_device, with_burst}
use Rattle.machine.specs.State.{runs, sleeps, stands_by, is_held, is_open}
use Rattle.machine.specs.Counts.{is_barred}
use Rattle.machine.specs.Control.{begins, effect}
use Rattle.machine.specs.Data.{in_range, stored, register}
use Rattle.machine.specs.Events as ev
use Rattle.machine.specs.Event.{stepped}

-- F2, F4 and F5 may be written: no burst is open, and nothing is being copied or a conversion is running
pub record MayControl (m : Machine) : Type 0 where
  pub none_open : is_open m.burst ≡ false
  pub may-write : ev.may_write m.device ≡ true

-- the reasons for which an event on m hands back a number other than done
pub data Refuses (m : Machine) : Event → ℕ → Type 0 where
  not-copying : m.device.copying ≡ false → Refuses m Copied wrong_phase
  write-in-burst : (a v : ℕ) → is_open m.burst ≡ true → Refuses m (Write a v) burst_is_open
  write-elsewhere : (a v : ℕ) → is_open m.burst ≡ false → is_writable m.device.kind a ≡ false → Refuses m (Write a v) address_not_allowed
  reset-otherwise : (v : ℕ) → is_open m.burst ≡ false → eqb v reg.reset_word ≡ false → Refuses m (Write reg.reset v) ignored
  write-copying : (a v : ℕ) → is_open m.burst ≡ false → is_writable m.device.kind a ≡ true → eqb a reg.reset ≡ false → ev.may_write m.device ≡ false
      → Refuses m (Write a v) still_copying
  f5-awake : (v : ℕ) → MayControl m → sleeps m.device.phase ≡ false → Refuses m (Write reg.config v) ignored
  f4-held : (v : ℕ) → MayControl m → runs m.device.phase ≡ true → is_held m.device.held ≡ true → Refuses m (Write reg.ctrl_meas v) ignored
  f4-barred : (v : ℕ) → MayControl m → runs m.device.phase ≡ false → is_barred (begins m.device.phase v) m.ledger ≡ true
      → Refuses m (Write reg.ctrl_meas v) all_begun
  finish-early : (t p h : ℕ) → ev.may_finish m.device ≡ false → Refuses m (Finish t p h) wrong_phase
  finish-too-large : (t p h : ℕ) → ev.may_finish m.device ≡ true → in_range t p h ≡ false → Refuses m (Finish t p h) out_of_range
  finish-barred : (t p h : ℕ) → ev.may_finish m.device ≡ true → in_range t p h ≡ true → is_barred (ev.held_will_begin m.device) m.ledger ≡ true
      → Refuses m (Finish t p h) all_begun
  wake-elsewhere : stands_by m.device.phase ≡ false → Refuses m Wake wrong_phase
  wake-barred : stands_by m.device.phase ≡ true → is_barred true m.ledger ≡ true → Refuses m Wake all_begun
  open-in-burst : (a : ℕ) → is_open m.burst ≡ true → Refuses m (Open a) burst_is_open
  open-elsewhere : (a : ℕ) → is_open m.burst ≡ false → reg.is_readable a ≡ false → Refuses m (Open a) address_not_allowed
  byte-without-burst : is_open m.burst ≡ false → Refuses m Byte wrong_phase
  byte-past-last : (first at : ℕ) → m.burst ≡ ev.burst_at first at → ltb reg.last_register at ≡ true → Refuses m Byte address_not_allowed
  close-without-burst : (n : ℕ) → is_open m.burst ≡ false → Refuses m (Close n) wrong_phase
  close-wrong-length : (n : ℕ) → is_open m.burst ≡ true → eqb n (facts m.device.kind).bytes ≡ false → Refuses m (Close n) wrong_length

pub refuses-not-done : {m : Machine} {e : Event} {n : ℕ} → Refuses m e n → eqb n done ≡ false
refuses-not-done (not-copying c) = refl
refuses-not-done (write-in-burst a v o) = refl
refuses-not-done (write-elsewhere a v o w) = refl
refuses-not-done (reset-otherwise v o e) = refl
refuses-not-done (write-copying a v o w r c) = refl
refuses-not-done (f5-awake v c s) = refl
refuses-not-done (f4-held v c u q) = refl
refuses-not-done (f4-barred v c i b) = refl
refuses-not-done (finish-early t p h u) = refl
refuses-not-done (finish-too-large t p h u r) = refl
refuses-not-done (finish-barred t p h u r b) = refl
refuses-not-done (wake-elsewhere y) = refl
refuses-not-done (wake-barred y b) = refl
refuses-not-done (open-in-burst a o) = refl
refuses-not-done (open-elsewhere a o r) = refl
refuses-not-done (byte-without-burst o) = refl
refuses-not-done (byte-past-last f a e l) = refl
refuses-not-done (close-without-burst n o) = refl
refuses-not-done (close-wrong-length n o l) = refl

-- of the machine before, the event, and what it hands back
pub record Steps (P : Machine → Event → Outcome → Type 0) : Type 0 where
  pub refuses : (m : Machine) (e : Event) (n : ℕ) → Refuses m e n → P m e (ev.answered n m)
  pub powers : (m : Machine) → P m Power (ev.answered done (ev.reset m))
  pub copies : (m : Machine) → m.device.copying ≡ true → P m Copied (ev.answered done (with_device (with_copying false m.device) m))
  pub resets : (m : Machine) → is_open m.burst ≡ false → P m (Write reg.reset reg.reset_word) (ev.answered done (ev.reset m))
  pub writes-f2 : (m : Machine) (v : ℕ) → MayControl m → (facts m.device.kind).humidity ≡ true
      → P m (Write reg.ctrl_hum v) (ev.answered done (with_device (with_f2 (v % 8) m.device) m))
  pub writes-f5 : (m : Machine) (v : ℕ) → MayControl m → sleeps m.device.phase ≡ true
      → P m (Write reg.config v) (ev.answered done (with_device (with_f5 (v / 4 * 4 + v % 2) m.device) m))
  pub holds-f4 : (m : Machine) (v : ℕ) → MayControl m → runs m.device.phase ≡ true → is_held m.device.held ≡ false
      → P m (Write reg.ctrl_meas v) (ev.answered done (with_device (with_held (Some v) m.device) m))
  pub takes-f4 : (m : Machine) (v : ℕ) → MayControl m → runs m.device.phase ≡ false → is_barred (begins m.device.phase v) m.ledger ≡ false
      → P m (Write reg.ctrl_meas v) (ev.answered done (effect m v))
  pub finishes : (m : Machine) (t p h : ℕ) → ev.may_finish m.device ≡ true → in_range t p h ≡ true → is_barred (ev.held_will_begin m.device) m.ledger ≡ false
      → P m (Finish t p h) (ev.answered done (ev.converted m (stored m.device t p h)))
  pub wakes : (m : Machine) → stands_by m.device.phase ≡ true → is_barred true m.ledger ≡ false → P m Wake (ev.answered done (ev.awake m))
  pub opens : (m : Machine) (a : ℕ) → is_open m.burst ≡ false → reg.is_readable a ≡ true → P m (Open a) (ev.answered done (with_burst (ev.burst_at a a) m))
  pub gives : (m : Machine) (first at : ℕ) → m.burst ≡ ev.burst_at first at → ltb reg.last_register at ≡ false
      → P m Byte (ev.given (register at m) (with_burst (ev.burst_at first (at + 1)) m))
  pub ends-whole : (m : Machine) → is_open m.burst ≡ true → ev.is_whole m.device.kind m.burst ≡ true → P m (Close (facts m.device.kind).bytes) (ev.whole_closing m)
  pub ends-partial : (m : Machine) → is_open m.burst ≡ true → ev.is_whole m.device.kind m.burst ≡ false → P m (Close (facts m.device.kind).bytes) (ev.answered done (ev.ended m))

-- F2 is writable where it is there
has-f2 : (b : Bool) → b && true ≡ true → b ≡ true
has-f2 true e = refl
has-f2 false e = e

-- a writable register that is none of the other three is F4
last-writable : (kind : Kind) (a : ℕ) → is_writable kind a ≡ true → eqb a reg.reset ≡ false → eqb a reg.ctrl_hum ≡ false → eqb a reg.config ≡ false → a ≡ reg.ctrl_meas
last-writable kind a w r h c =
    let any : reg.is_writable a ≡ true = (both (not (eqb a reg.ctrl_hum) || (facts kind).humidity) (reg.is_writable a) w).1 in
    at (eqb a reg.ctrl_meas) refl (rw (r, h, c) at any)
  where
    at : (b : Bool) → eqb a reg.ctrl_meas ≡ b → (eqb a reg.ctrl_meas || false) ≡ true → a ≡ reg.ctrl_meas
    at true e z = eqb-true a reg.ctrl_meas e
    at false e z = absurd (false≢true (rw e at z))

module _ (P : Machine → Event → Outcome → Type 0) (s : Steps P) (m : Machine) where
  no : {e : Event} {n : ℕ} → Refuses m e n → P m e (ev.answered n m)
  no {e} {n} r = s.refuses m e n r

  by-reset : (v : ℕ) → is_open m.burst ≡ false → P m (Write reg.reset v) (ev.written_reset m v)
  by-reset v o =
      pick (P m (Write reg.reset v)) (eqb v reg.reset_word)
      (λ e. subst (λ (v : ℕ). P m (Write reg.reset v) (ev.answered done (ev.reset m))) (sym (eqb-true v reg.reset_word e)) (s.resets m o))
      (λ e. no (reset-otherwise v o e))

  by-f5 : (v : ℕ) → MayControl m → P m (Write reg.config v) (ev.written_f5 m v)
  by-f5 v c =
      pick (P m (Write reg.config v)) (not (sleeps m.device.phase))
      (λ e. no (f5-awake v c (not-true (sleeps m.device.phase) e)))
      (λ e. s.writes-f5 m v c (not-false (sleeps m.device.phase) e))

  by-f4 : (v : ℕ) → MayControl m → P m (Write reg.ctrl_meas v) (ev.written_f4 m v)
  by-f4 v c =
      let Q = P m (Write reg.ctrl_meas v) in
      pick Q (runs m.device.phase)
      (λ u. pick Q (is_held m.device.held) (λ q. no (f4-held v c u q)) (λ q. s.holds-f4 m v c u q))
      (λ i. pick Q (is_barred (begins m.device.phase v) m.ledger) (λ b. no (f4-barred v c i b)) (λ b. s.takes-f4 m v c i b))

  by-control : (a v : ℕ) → is_open m.burst ≡ false → is_writable m.device.kind a ≡ true → eqb a reg.reset ≡ false → P m (Write a v) (ev.written_control m a v)
  by-control a v o w r =
      let Q = P m (Write a v) in
      pick Q (not (ev.may_write m.device)) (λ y. no (write-copying a v o w r (not-true (ev.may_write m.device) y))) λ y.
      let c : MayControl m = record { none_open = o; may-write = not-false (ev.may_write m.device) y } in
      pick Q (eqb a reg.ctrl_hum) (λ h. let is = eqb-true a reg.ctrl_hum h in
      subst (λ (a : ℕ). P m (Write a v) (ev.written_f2 m v)) (sym is)
      (s.writes-f2 m v c (has-f2 (facts m.device.kind).humidity (subst (λ (a : ℕ). is_writable m.device.kind a ≡ true) is w)))) λ h.
      pick Q (eqb a reg.config) (λ f. subst (λ (a : ℕ). P m (Write a v) (ev.written_f5 m v)) (sym (eqb-true a reg.config f)) (by-f5 v c)) λ f.
      subst (λ (a : ℕ). P m (Write a v) (ev.written_f4 m v)) (sym (last-writable m.device.kind a w r h f)) (by-f4 v c)

  by-write : (a v : ℕ) → P m (Write a v) (ev.written m a v)
  by-write a v =
      let Q = P m (Write a v) in
      pick Q (is_open m.burst) (λ o. no (write-in-burst a v o)) λ o.
      let writable = is_writable m.device.kind a in
      pick Q (not writable) (λ w. no (write-elsewhere a v o (not-true writable w))) λ w.
      pick Q (eqb a reg.reset)
      (λ r. subst (λ (a : ℕ). P m (Write a v) (ev.written_reset m v)) (sym (eqb-true a reg.reset r)) (by-reset v o))
      (λ r. by-control a v o (not-false writable w) r)

  by-finish : (t p h : ℕ) → P m (Finish t p h) (ev.finished m t p h)
  by-finish t p h =
      let Q = P m (Finish t p h) in
      pick Q (not (ev.may_finish m.device)) (λ u. no (finish-early t p h (not-true (ev.may_finish m.device) u))) λ u.
      let may = not-false (ev.may_finish m.device) u in
      pick Q (not (in_range t p h)) (λ r. no (finish-too-large t p h may (not-true (in_range t p h) r))) λ r.
      let fits = not-false (in_range t p h) r in
      pick Q (is_barred (ev.held_will_begin m.device) m.ledger) (λ b. no (finish-barred t p h may fits b)) (s.finishes m t p h may fits)

  by-wake : P m Wake (ev.woken m)
  by-wake =
      pick (P m Wake) (not (stands_by m.device.phase)) (λ y. no (wake-elsewhere (not-true (stands_by m.device.phase) y))) λ y.
      let Stands-by = not-false (stands_by m.device.phase) y in
      pick (P m Wake) (is_barred true m.ledger) (λ b. no (wake-barred Stands-by b)) (s.wakes m Stands-by)

  by-open : (a : ℕ) → P m (Open a) (ev.opened m a)
  by-open a =
      let Q = P m (Open a) in
      pick Q (is_open m.burst) (λ o. no (open-in-burst a o)) λ o.
      pick Q (not (reg.is_readable a)) (λ r. no (open-elsewhere a o (not-true (reg.is_readable a) r))) (λ r. s.opens m a o (not-false (reg.is_readable a) r))

  by_byte : (b : Option OpenBurst) → m.burst ≡ b → P m Byte (ev.byte_of b m)
  by_byte None e = no (byte-without-burst (rw e))
  by_byte (Some b) e =
      pick (P m Byte) (ltb reg.last_register b.next) (λ l. no (byte-past-last b.first b.next e l)) (s.gives m b.first b.next e)

  by-close : (n : ℕ) → P m (Close n) (ev.closing m n)
  by-close n =
      let Q = P m (Close n) in
      pick Q (not (is_open m.burst)) (λ o. no (close-without-burst n (not-true (is_open m.burst) o))) λ o.
      let open_is = not-false (is_open m.burst) o in
      let bytes = (facts m.device.kind).bytes in
      pick Q (not (eqb n bytes)) (λ l. no (close-wrong-length n open_is (not-true (eqb n bytes) l))) λ l.
      let length-is = sym (eqb-true n bytes (not-false (eqb n bytes) l)) in
      pick Q (ev.is_whole m.device.kind m.burst)
      (λ w. subst (λ (n : ℕ). P m (Close n) (ev.whole_closing m)) length-is (s.ends-whole m open_is w))
      (λ w. subst (λ (n : ℕ). P m (Close n) (ev.answered done (ev.ended m))) length-is (s.ends-partial m open_is w))

  pub walk : (e : Event) → P m e (stepped m e)
  walk Power = s.powers m
  walk Copied =
      pick (P m Copied) (not m.device.copying) (λ c. no (not-copying (not-true m.device.copying c))) (λ c. s.copies m (not-false m.device.copying c))
  walk (Write a v) = by-write a v
  walk (Finish t p h) = by-finish t p h
  walk Wake = by-wake
  walk (Open a) = by-open a
  walk Byte = by_byte m.burst refl
  walk (Close n) = by-close n
