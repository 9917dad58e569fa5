-- One turn, step by step: what each event makes of a machine that is ready for it.
use Prim.Native.Nat.{ℕ, ◌+◌, ◌%◌, ◌<◌}
use mathlib.Core.Path.{◌≡◌, refl, sym, ap, ◌∙◌, subst}
use mathlib.Core.Bool.{Bool, true, false, not, cond, ◌&&◌, ◌||◌, or-true}
use mathlib.Core.List.{List, ◌∷◌}
use lib.Dec.{eqb}
use lib.ListN.{length, take}
use borrow.Author.Tests.{lt-ltb, lt-leb, ne_eqb, eq-eqb, eqb-true}
use Rattle.std.specs.Prelude.{Option, None, Some}
use Rattle.paper.specs.Numbers.{done, address_not_allowed, still_copying, wrong_phase, all_begun}
use Rattle.paper.specs.Registers as reg
use Rattle.kinds.specs.declared.Kind.{Kind}
use Rattle.kinds.specs.declared.Kind.TheVariants.{Bme280, Bmp280}
use Rattle.kinds.specs.Chips.{facts}
use Rattle.machine.specs.declared.Phase.{Phase}
use Rattle.machine.specs.declared.Phase.TheVariants.{Sleep, Forced, Normal, Standby}
use Rattle.machine.specs.declared.OpenBurst.{OpenBurst}
use Rattle.machine.specs.declared.Device.{Device}
use Rattle.machine.specs.declared.Machine.{Machine}
use Rattle.machine.specs.declared.Outcome.{Outcome}
use Rattle.machine.specs.Fields.{with_phase, with_copying, with_f2, with_held, with_device, with_burst, with_ledger}
use Rattle.machine.specs.State.{runs, stands_by, is_open}
use Rattle.machine.specs.Counts.{is_barred, begun_if}
use Rattle.machine.specs.Control.{phase_after, latched, controlled, effect, held_begins, held_effect}
use Rattle.machine.specs.Data.{in_range, stored}
use Rattle.machine.specs.Events.{answered, held_f4, taken_f4, written_f4, may_write, may_finish, rested, finished_one, showing, keeping, landed, converted, awake}
use Rattle.machine.specs.Events.{is_whole, whole_closing, closing, written_to, closed, burst_at}
use Rattle.machine.specs.declared.Event.TheVariants.{Copied, Write, Finish, Wake, Open}
use Rattle.machine.specs.Event.{next, after}
use Rattle.machine.proofs.Bmp280.{rested-kind}
use Rattle.ledger.specs.Alive.{Turn, Fits, codes_of, by_write, finish, given, measured}
use Rattle.ledger.proofs.Tests.{chosen, passed}

in-range : {kind : Kind} (t : Turn) → Fits kind t → in_range t.temperature t.pressure t.humidity ≡ true
in-range t f =
    rw (lt-ltb t.temperature 0x100000 f.temperature-fits, lt-ltb t.pressure 0x100000 f.pressure-fits, lt-ltb t.humidity 0x10000 f.humidity-fits)

-- ---- it begins

-- one more is counted, and the device goes on as d
abbrev pub begun : Machine → Device → Machine
begun m d = with_device d (with_ledger (begun_if true m.ledger) m)

-- F2 as the turn writes it, where it is there, and then F4
abbrev f2_by : Turn → Device → Device
f2_by t d = with_f2 (cond (facts d.kind).humidity (t.f2 % 8) d.f2) d

abbrev pub controlled_by : Turn → Device → Device
controlled_by t d = controlled (f2_by t d) t.f4

-- F2 is written, or refused and left as it was
f2-written : (b : Bool) (m : Machine) (v : ℕ)
    → (cond (not (b && true)) (answered address_not_allowed m) (answered done (with_device (with_f2 (v % 8) m.device) m))).machine
    ≡ with_device (with_f2 (cond b (v % 8) m.device.f2) m.device) m
f2-written true m v = refl
f2-written false m v = refl

-- and so the codes are the turn's
pub codes-by : (kind : Kind) (t : Turn) (d : Device) → d.kind ≡ kind → latched (f2_by t d) t.f4 ≡ codes_of kind t
codes-by Bme280 t d e = rw e
codes-by Bmp280 t d e = rw e

-- a byte of any mode but 0 leads to a conversion, unless it is mode 3 in standby
pub mode-runs : (p : Phase) (v : ℕ) → (v % 4 ≡ 0 → ⊥) → (v % 4 ≡ 3 → stands_by p ≡ false) → runs (phase_after p v) ≡ true
mode-runs p v z y =
    ap (λ (b : Bool). runs (cond b Sleep (cond (eqb (v % 4) 3) (cond (stands_by p) Standby Normal) Forced))) (ne_eqb (v % 4) 0 z) ∙ at (eqb (v % 4) 3) refl
  where
    at : (b : Bool) → eqb (v % 4) 3 ≡ b → runs (cond b (cond (stands_by p) Standby Normal) Forced) ≡ true
    at true e = rw (y (eqb-true (v % 4) 3 e))
    at false e = refl

-- in the phase p, not copying, with no burst
abbrev idling : Phase → Bool → Option OpenBurst → Machine → Machine
idling p c b m = with_burst b (with_device (with_phase p (with_copying c m.device)) m)

same-idling : (m : Machine) {p q : Phase} {c d : Bool} {b k : Option OpenBurst} → p ≡ q → c ≡ d → b ≡ k → idling p c b m ≡ idling q d k m
same-idling m e f g = cc

module _ (m : Machine) (t : Turn) (p : Phase) (idle : runs p ≡ false) where
  abbrev idler : Machine
  idler = idling p false None m

  abbrev f2-set : Machine
  f2-set = with_device (f2_by t idler.device) idler

  -- one more is counted if one begins
  abbrev taken : Bool → Machine → Machine
  taken b k = with_device (controlled_by t k.device) (with_ledger (begun_if b k.ledger) k)

  idler-takes : (b : Bool) → runs (phase_after p t.f4) ≡ b → is_barred b m.ledger ≡ false → after idler (by_write t) ≡ taken b idler
  unfolding effect
  idler-takes b e free =
      ap (λ (k : Machine). next k (Write reg.ctrl_meas t.f4)) (f2-written (facts m.device.kind).humidity idler t.f2)
      ∙ ap (λ (o : Outcome). o.machine)
      (passed (runs p) (held_f4 f2-set t.f4) (taken_f4 f2-set t.f4) idle
      ∙ passed (is_barred (runs (phase_after p t.f4)) m.ledger) (answered all_begun f2-set) (answered done (effect f2-set t.f4))
      (ap (λ (b : Bool). is_barred b m.ledger) e ∙ free))
      ∙ ap (λ (b : Bool). with_device (controlled_by t idler.device) (with_ledger (begun_if b m.ledger) idler)) e

  write-takes : (b : Bool) → runs (phase_after p t.f4) ≡ b → is_barred b m.ledger ≡ false
      → m.device.phase ≡ p → m.device.copying ≡ false → m.burst ≡ None → after m (by_write t) ≡ taken b m
  write-takes b e free q c o =
      ap (λ (k : Machine). after k (by_write t)) (same-idling m q c o) ∙ idler-takes b e free ∙ sym (ap (taken b) (same-idling m q c o))

  -- F4 that begins a conversion, and F4 that begins none
  pub write-begins : runs (phase_after p t.f4) ≡ true → m.ledger.begun < reg.most_begun
      → m.device.phase ≡ p → m.device.copying ≡ false → m.burst ≡ None → after m (by_write t) ≡ begun m (controlled_by t m.device)
  write-begins e room = write-takes true e (lt-leb reg.most_begun m.ledger.begun room)

  pub write-latches : runs (phase_after p t.f4) ≡ false
      → m.device.phase ≡ p → m.device.copying ≡ false → m.burst ≡ None → after m (by_write t) ≡ with_device (controlled_by t m.device) m
  write-latches e = write-takes false e refl

-- F4 during a conversion is held
module _ (m : Machine) (t : Turn) where
  abbrev pub holding : Machine
  holding = with_device (with_held (Some t.f4) (f2_by t m.device)) m

  abbrev holder : Option ℕ → Option OpenBurst → Machine
  holder q b = with_burst b (with_device (with_held q m.device) m)

  same-holder : {p q : Option ℕ} {b k : Option OpenBurst} → p ≡ q → b ≡ k → holder p b ≡ holder q k
  same-holder e g = cc

  abbrev not-held : Machine
  not-held = holder None None

  abbrev held-f2 : Machine
  held-f2 = with_device (f2_by t not-held.device) not-held

  -- copying or not
  may-write : runs m.device.phase ≡ true → not (may_write m.device) ≡ false
  may-write u = ap (λ (r : Bool). not (not m.device.copying || r)) u ∙ ap not (or-true (not m.device.copying))

  pub write-holds : runs m.device.phase ≡ true → m.device.held ≡ None → m.burst ≡ None → after m (by_write t) ≡ holding
  write-holds u n b = let humid = (facts m.device.kind).humidity in
      ap (λ (k : Machine). after k (by_write t)) (same-holder n b)
      ∙ ap (λ (o : Outcome). next (cond (not (humid && true)) (answered address_not_allowed not-held) o).machine (Write reg.ctrl_meas t.f4))
      (passed (not (may_write m.device)) (answered still_copying not-held) _ (may-write u))
      ∙ ap (λ (k : Machine). next k (Write reg.ctrl_meas t.f4)) (f2-written humid not-held t.f2)
      ∙ ap (λ (o : Outcome). o.machine)
      (passed (not (may_write m.device)) (answered still_copying held-f2) (written_f4 held-f2 t.f4) (may-write u)
      ∙ chosen (runs m.device.phase) (held_f4 held-f2 t.f4) (taken_f4 held-f2 t.f4) u)
      ∙ ap (λ (k : Machine). with_device (with_held (Some t.f4) (f2_by t k.device)) k) (sym (same-holder n b))

pub wake-begins : (m : Machine) → m.device.phase ≡ Standby → m.ledger.begun < reg.most_begun → next m Wake ≡ awake m
wake-begins m p room =
    ap (λ (q : Phase). next (with_device (with_phase q m.device) m) Wake) p
    ∙ ap (λ (o : Outcome). o.machine) (passed (is_barred true m.ledger) (answered all_begun _) (answered done (awake m)) (lt-leb reg.most_begun m.ledger.begun room))

-- ---- copying ends, unless it has already: it finishes and is read

abbrev pub uncopying : Machine → Machine
uncopying m = with_device (with_copying false m.device) m

pub copies : (m : Machine) → next m Copied ≡ uncopying m
copies m = at m.device.copying refl
  where
    at : (c : Bool) → m.device.copying ≡ c → next m Copied ≡ uncopying m
    at true e = rw e
    at false e = rw e

module _ (k : Machine) (t : Turn) where
  abbrev m : Machine
  m = uncopying k

  abbrev bytes : List ℕ
  bytes = stored m.device t.temperature t.pressure t.humidity

  -- the conversion lands, and the device rests
  abbrev pub landed-with : Machine
  landed-with = with_device (rested m.device) (landed (finished_one m bytes) m)

  -- where no burst is open it is shown
  abbrev pub done-with : Machine
  done-with = with_device (rested m.device) (showing (finished_one m bytes) m)

  pub lands-shown : m.burst ≡ None → landed-with ≡ done-with
  lands-shown b = ap (with_device (rested m.device)) (passed (is_open m.burst) (keeping (finished_one m bytes) m) (showing (finished_one m bytes) m) (ap is_open b))

  -- and then what is held takes effect
  finishes-with : {kind : Kind} → Fits kind t → runs m.device.phase ≡ true → (q : Option ℕ) → m.device.held ≡ q
      → is_barred (held_begins q (rested m.device).phase) m.ledger ≡ false
      → after k (finish t) ≡ held_effect q landed-with
  finishes-with f u q n free =
      ap (λ (j : Machine). next j (Finish t.temperature t.pressure t.humidity)) (copies k)
      ∙ ap (λ (o : Outcome). o.machine)
      (passed (not (may_finish m.device)) (answered wrong_phase m) _ (ap not u)
      ∙ passed (not (in_range t.temperature t.pressure t.humidity)) _ _ (ap not (in-range t f))
      ∙ passed (is_barred (held_begins m.device.held (rested m.device).phase) m.ledger) _ (answered done (converted m bytes))
      (ap (λ (q : Option ℕ). is_barred (held_begins q (rested m.device).phase) m.ledger) n ∙ free))
      ∙ ap (λ (q : Option ℕ). held_effect q landed-with) n

  -- a held F4, which begins a conversion or none
  pub finish-takes : {kind : Kind} → Fits kind t → runs m.device.phase ≡ true → (v : ℕ) → m.device.held ≡ Some v → (b : Bool) → runs (phase_after (rested m.device).phase v) ≡ b
      → m.ledger.begun < reg.most_begun → after k (finish t)
      ≡ with_device (controlled (rested m.device) v) (with_ledger (begun_if b landed-with.ledger) landed-with)
  unfolding effect held_effect
  finish-takes f u v n b e room =
      finishes-with f u (Some v) n (at (runs (phase_after (rested m.device).phase v)))
      ∙ ap (λ (b : Bool). with_device (controlled (rested m.device) v) (with_ledger (begun_if b landed-with.ledger) landed-with)) e
    where
      at : (b : Bool) → is_barred b m.ledger ≡ false
      at true = lt-leb reg.most_begun m.ledger.begun room
      at false = refl

  -- it has given all of its data bytes
  abbrev pub read-from : Kind → Machine
  read-from kind = with_burst (burst_at reg.first_data ((facts kind).last + 1)) done-with

  reads : (kind : Kind) (k : Machine) → k.burst ≡ None
      → after k (Open reg.first_data ∷ given (facts kind).bytes) ≡ with_burst (burst_at reg.first_data ((facts kind).last + 1)) k
  reads Bme280 k e = ap (λ (q : Option OpenBurst). after (with_burst q k) (Open reg.first_data ∷ given 8)) e
  reads Bmp280 k e = ap (λ (q : Option OpenBurst). after (with_burst q k) (Open reg.first_data ∷ given 6)) e

  all-given : (kind : Kind) → is_whole kind (burst_at reg.first_data ((facts kind).last + 1)) ≡ true
  all-given Bme280 = refl
  all-given Bmp280 = refl

  module _ (kind : Kind) (same : k.device.kind ≡ kind) (f : Fits kind t)
      (u : runs m.device.phase ≡ true) (n : m.device.held ≡ None) (b : m.burst ≡ None) where
    finishes : after k (finish t) ≡ done-with
    unfolding held_effect
    finishes = finishes-with f u None n refl ∙ lands-shown b

    measures : after k (measured kind t) ≡ read-from kind
    unfolding showing
    measures = ap (λ (k : Machine). after k (Open reg.first_data ∷ given (facts kind).bytes)) finishes ∙ reads kind done-with b

    abbrev kind-now : Kind
    kind-now = (read-from kind).device.kind

    kind-is : kind-now ≡ kind
    kind-is = rested-kind m.device ∙ same

    ends-whole : closing (read-from kind) (length t.lent) ≡ whole_closing (read-from kind)
    unfolding showing
    ends-whole =
        let bytes-now = (facts kind-now).bytes in
        passed (not (eqb (length t.lent) bytes-now)) _ _
        (ap not (eq-eqb (length t.lent) bytes-now (f.lends-all ∙ ap (λ (x : Kind). (facts x).bytes) (sym kind-is))))
        ∙ chosen (is_whole kind-now (burst_at reg.first_data ((facts kind).last + 1))) _ _
        (subst (λ (x : Kind). is_whole x (burst_at reg.first_data ((facts kind).last + 1)) ≡ true) (sym kind-is) (all-given kind))

    pub closes : closed (after k (measured kind t)) t.lent ≡ (whole_closing (read-from kind), take (facts kind).bytes bytes)
    unfolding showing
    closes =
        ap (λ (k : Machine). closed k t.lent) measures
        ∙ ap (λ (c : Outcome). (c, written_to kind-now c t.lent)) ends-whole
        ∙ ap (λ (x : Kind). (whole_closing (read-from kind), take (facts x).bytes bytes)) kind-is
