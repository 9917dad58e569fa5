-- The one invariant, of a machine and the history that led to it, and that every event keeps it.
use Prim.Native.Nat.{ℕ, ◌+◌, ◌-◌, ◌*◌, ◌/◌, ◌%◌, ◌≤◌, ◌<◌}
use mathlib.Core.Path.{◌≡◌, refl, sym, ap, ◌∙◌, subst}
use mathlib.Core.Bool.{Bool, true, false, not, cond, ◌&&◌, ◌||◌, true≢false}
use mathlib.Core.List.{List, [], ◌∷◌, ◌++◌, append_assoc}
use native.Mathlib.Omega.{arith}
use lib.Dec.{ltb}
use lib.ListN.{get_or}
use borrow.Author.Tests.{leb-false}
use Rattle.std.specs.Prelude.{Option, None, Some}
use Rattle.laws.specs.Choices.{pick}
use Rattle.paper.specs.Registers as reg
use Rattle.kinds.specs.declared.Kind.{Kind}
use Rattle.kinds.specs.Chips.{facts}
use Rattle.machine.specs.declared.Phase.{Phase}
use Rattle.machine.specs.declared.Codes.{Codes}
use Rattle.machine.specs.declared.Device.{Device}
use Rattle.machine.specs.declared.Machine.{Machine}
use Rattle.machine.specs.declared.Outcome.{Outcome}
use Rattle.machine.specs.declared.Event.{Event}
use Rattle.machine.specs.Fields.{with_held, with_device, with_burst, with_ledger}
use Rattle.machine.specs.State as state
use Rattle.machine.specs.State.{runs, stands_by, is_open}
use Rattle.machine.specs.Counts.{is_barred, begun_if}
use Rattle.machine.specs.Control as control
use Rattle.machine.specs.Control.{effect, held_effect}
use Rattle.machine.specs.Data.{in_range, stored, register}
use Rattle.machine.specs.Events.{reset, rested, held_will_begin, finished_one, converted, is_whole, delivering, ended, awake, byte_given, burst_at}
use Rattle.machine.specs.Event.{next, answer, after}
use Rattle.machine.proofs.Walk.{Steps, refuses-not-done, walk}
use Rattle.ledger.specs.Happening.{Change, copied, wrote_f2, wrote_f5, held_f4, took_f4, Happening, began, finished, lost, opened, gave, closed, changed}
use Rattle.ledger.specs.Device.{is_converting, is_standby, asks_normal, begins_by, changes, begins, finishes, freshly, device_in}
use Rattle.ledger.specs.Bytes.{data_bytes}
use Rattle.ledger.specs.History.{codes_in, opened_at, given_in, whole_in, Measurement, shown_by, bit}
use Rattle.ledger.specs.Added.{takes, writes_f4, takes_held, added, added_after, history}
use Rattle.ledger.specs.Statements.{AreOf}
use Rattle.ledger.proofs.Tests.{and_right}
use Rattle.ledger.proofs.Book as bk
use Rattle.ledger.proofs.Book.{Book, nonzero, nonzero-pos, enter, Asks}
use Rattle.ledger.proofs.Right.{Right, right-fresh, right-enter, none-waits}
use Rattle.ledger.proofs.Named.{Names, names_fresh, names-enter}
use Rattle.ledger.proofs.Entries.{book, busy, lands, Tidy, enters-lost, enters-began, enters-finished, enters-partial, enters-whole}
use Rattle.ledger.proofs.Tidy.{landed-begun, lands-burst, ended-device, tidy-lands, tidy-burst, tidy-ended, tidy-delivering}
use Rattle.ledger.proofs.Given.{Spans, Spanned, spans-opened, spans-gave, whole_is, register-data, gives-value}
use Rattle.ledger.proofs.Laid.{lays}
use Rattle.ledger.proofs.Control.{runs-is, begins-is, takes-begun, takes-else, rests-as, rested-phase, finished-idle, standing-idle, wakes-as}

-- the book's counts and conversions, its numbers, what the machine has besides, and what the open burst has given
pub record Kept {kind : Kind} (m : Machine) (h : List (Happening kind)) : Type 0 where
  pub right : Right (busy m) (book m) h
  pub names : Names (busy m) (book m) h
  pub tidy : Tidy m
  pub spanned : Spanned m.burst (opened_at h) (given_in h)
  pub given : AreOf kind (shown_by h) (given_in h)
  pub device-is : m.device ≡ device_in h

-- the history's device is of its kind of part
changed-kind : (x : Change) (d : Device) → (changes x d).kind ≡ d.kind
changed-kind copied d = refl
changed-kind (wrote_f2 v) d = refl
changed-kind (wrote_f5 v) d = refl
changed-kind (held_f4 v) d = refl
changed-kind (took_f4 v) d = refl

kind-in : {kind : Kind} (h : List (Happening kind)) → (device_in h).kind ≡ kind
kind-in [] = refl
kind-in (began ∷ h) = kind-in h
kind-in (finished x y z ∷ h) = kind-in h
kind-in (lost ∷ h) = refl
kind-in (opened a ∷ h) = kind-in h
kind-in (gave v ∷ h) = kind-in h
kind-in (closed ∷ h) = kind-in h
kind-in (changed x ∷ h) = changed-kind x (device_in h) ∙ kind-in h

-- and so is the machine
pub kind-is : {kind : Kind} {m : Machine} {h : List (Happening kind)} → Kept m h → m.device.kind ≡ kind
kind-is {kind} {m} {h} k = ap (λ (d : Device). d.kind) k.device-is ∙ kind-in h

-- and so a test of the one is a test of the other
pub tested : {kind : Kind} {m : Machine} {h : List (Happening kind)} {b : Bool} (test : Kind → Bool) → Kept m h → test m.device.kind ≡ b → test kind ≡ b
tested {b = b} test k = subst (λ (x : Kind). test x ≡ b) (kind-is k)

-- the machine's test of a whole burst is the history's
pub whole_in_lem : {kind : Kind} {m : Machine} {h : List (Happening kind)} → Kept m h → is_open m.burst ≡ true → is_whole m.device.kind m.burst ≡ whole_in h
whole_in_lem {m = m} {h = h} k o = rw (kind-is k) (whole_is m.burst h o k.spanned)

kept_fresh : (kind : Kind) → Kept {kind = kind} (state.fresh kind) []
kept_fresh kind = record {
  right = right-fresh kind;
  names = names_fresh kind;
  tidy = record { small = omega arith; none-shown = λ e. refl; none-waits = λ e. refl; unread-waits = refl; none-held = λ e. refl };
  spanned = tt;
  given = tt;
  device-is = refl;
}

-- one thing happened
enters : {kind : Kind} (x : Happening kind) (m n : Machine) (h : List (Happening kind)) → Asks x (busy m) (is_open m.burst) → busy n ≡ bk.runs x (busy m)
    → book n ≡ enter x (whole_in h) n.device.codes (book m) → (busy n ≡ true → n.device.codes ≡ codes_in (x ∷ h)) → n.device ≡ device_in (x ∷ h)
    → Tidy n → Spanned n.burst (opened_at (x ∷ h)) (given_in (x ∷ h)) → AreOf kind (shown_by (x ∷ h)) (given_in (x ∷ h))
    → Kept m h → Kept n (x ∷ h)
enters x m n h a e b c d t s g k = record {
  right = subst (λ (u : Bool). Right u (book n) (x ∷ h)) (sym e)
      (subst (λ (o : Book). Right (bk.runs x (busy m)) o (x ∷ h)) (sym b)
      (right-enter x (busy m) n.device.codes (book m) h (λ u. c (e ∙ u)) a k.right));
  names = subst (λ (u : Bool). Names u (book n) (x ∷ h)) (sym e)
      (subst (λ (o : Book). Names (bk.runs x (busy m)) o (x ∷ h)) (sym b) (names-enter x (busy m) n.device.codes (book m) h a k.right k.names));
  tidy = t;
  spanned = s;
  given = g;
  device-is = d;
}

-- ---- the steps of the machine

kept-lost : {kind : Kind} (m : Machine) (h : List (Happening kind)) → Kept m h → Kept (reset m) (lost ∷ h)
kept-lost m h k =
    enters lost m (reset m) h tt refl (enters-lost m h (kind-is k) k.tidy k.right (whole_in h)) (λ e. absurd (true≢false (sym e))) (ap freshly (kind-is k))
    (record { small = k.tidy.small; none-shown = λ e. refl; none-waits = λ e. refl; unread-waits = refl; none-held = λ e. refl }) tt tt k

begun-runs : (d : Device) → runs (begins d).phase ≡ true
begun-runs d = pick (λ (p : Phase). runs p ≡ true) (is_standby d.phase || asks_normal d.f4) (λ _. refl) (λ _. refl)

kept-changed : {kind : Kind} (x : Change) (m : Machine) (h : List (Happening kind)) → runs (changes x m.device).phase ≡ busy m → (busy m ≡ true → (changes x m.device).codes ≡ m.device.codes)
    → (busy m ≡ false → (changes x m.device).held ≡ None) → Kept m h → Kept (with_device (changes x m.device) m) (changed x ∷ h)
kept-changed x m h e c n k = let t = k.tidy in
    enters (changed x) m (with_device (changes x m.device) m) h tt e refl (λ u. c (sym e ∙ u) ∙ k.right.codes-is (sym e ∙ u)) (ap (changes x) k.device-is)
    (record {
      small = t.small;
      none-shown = rw (changed-kind x m.device) t.none-shown;
      none-waits = rw (changed-kind x m.device) t.none-waits;
      unread-waits = t.unread-waits;
      none-held = λ i. n (sym e ∙ i);
    })
    k.spanned k.given k

kept-began : {kind : Kind} (m : Machine) (h : List (Happening kind)) → busy m ≡ false → m.ledger.begun < reg.most_begun → Kept m h
    → Kept (with_device (begins m.device) (with_ledger (begun_if true m.ledger) m)) (began ∷ h)
kept-began m h i l k =
    let t = k.tidy in
    let d : Device = begins m.device in
    let e : runs d.phase ≡ true = begun-runs m.device in
    enters began m (with_device d (with_ledger (begun_if true m.ledger) m)) h i e (enters-began m h (kind-is k) t k.right (whole_in h) d l)
    (λ _. ap (λ (d : Device). d.codes) k.device-is) (ap begins k.device-is)
    (record { small = omega arith; none-shown = t.none-shown; none-waits = t.none-waits; unread-waits = t.unread-waits; none-held = λ q. absurd (true≢false (sym e ∙ q)) })
    k.spanned k.given k

kept-finished : {kind : Kind} (m : Machine) (x y z : ℕ) (h : List (Happening kind)) → busy m ≡ true → Kept m h → Kept (lands m (finishes m.device) x y z) (finished x y z ∷ h)
kept-finished m x y z h u k =
    let r = k.right in
    let d : Device = finishes m.device in
    let i : runs d.phase ≡ false = finished-idle m.device in
    let one : nonzero m.ledger.begun ≡ true = nonzero-pos m.ledger.begun (omega (arith, r.begun-is, r.begun-some, ap bit u)) in
    enters (finished x y z) m (lands m d x y z) h u i
    (enters-finished m h (kind-is k) k.tidy r (whole_in h) d x y z (λ o. r.waits-is ∙ none-waits h (sym r.open_is ∙ o)))
    (λ q. absurd (true≢false (sym q ∙ i))) (ap finishes k.device-is)
    (tidy-lands m d x y z refl one refl k.tidy) (rw (lands-burst m d x y z) k.spanned) k.given k

kept-opened : {kind : Kind} (m : Machine) (a : ℕ) (h : List (Happening kind)) → is_open m.burst ≡ false → Kept m h → Kept (with_burst (burst_at a a) m) (opened a ∷ h)
kept-opened m a h o k = enters (opened a) m (with_burst (burst_at a a) m) h o refl refl k.right.codes-is k.device-is (tidy-burst m (burst_at a a) k.tidy) (spans-opened a) tt k

kept-gave : {kind : Kind} (m : Machine) (i j : ℕ) (h : List (Happening kind)) → m.burst ≡ burst_at i j → Kept m h
    → Kept (with_burst (burst_at i (j + 1)) m) (gave (register j m) ∷ h)
kept-gave {kind} m i j h e k =
    let open_is : is_open m.burst ≡ true = ap is_open e in
    let shown-is : (book m).shown ≡ shown_by h = k.right.shown-is ∙ rw (← k.right.open_is, open_is) in
    let s : Spans i j (opened_at h) (given_in h) = rw e at k.spanned in
    let Is : ℕ → Type 0 = λ a. reg.first_data ≤ a → a ≤ (facts kind).last → register j m ≡ get_or (shown_by h).bytes (a - reg.first_data) 0 in
    let byte : Is j = λ q w. register-data j m q (rw (kind-is k) w) ∙ ap (λ (c : Measurement). get_or c.bytes (j - reg.first_data) 0) shown-is in
    enters (gave (register j m)) m (with_burst (burst_at i (j + 1)) m) h open_is refl (rw open_is) k.right.codes-is k.device-is
    (tidy-burst m (burst_at i (j + 1)) k.tidy)
    (spans-gave i j (opened_at h) (register j m) (given_in h) s) (subst Is s.next-is byte, k.given) k

-- by the machine's test of the burst, which is the history's
closes : {kind : Kind} (m : Machine) (n : Machine) (h : List (Happening kind)) (g : Bool) → is_open m.burst ≡ true → is_whole m.device.kind m.burst ≡ g
    → n.device ≡ m.device → n.burst ≡ None → book n ≡ enter {kind = kind} closed g m.device.codes (book m) → Tidy n → Kept m h → Kept n (closed ∷ h)
closes {kind} m n h g o w d c b t k =
    enters closed m n h o (rw d)
    (subst (λ (c : Codes). book n ≡ enter {kind = kind} closed (whole_in h) c (book m)) (sym (ap (λ (d : Device). d.codes) d)) (rw (← whole_in_lem k o, w) b))
    (λ u. rw d (k.right.codes-is (rw d at u))) (d ∙ k.device-is) t (rw c tt) tt k

kept-partial : {kind : Kind} (m : Machine) (h : List (Happening kind)) → is_open m.burst ≡ true → is_whole m.device.kind m.burst ≡ false → Kept m h → Kept (ended m) (closed ∷ h)
kept-partial m h o w k = closes m (ended m) h false o w (ended-device m) refl (enters-partial m h (kind-is k) k.tidy k.right) (tidy-ended m k.tidy) k

kept_whole : {kind : Kind} (m : Machine) (h : List (Happening kind)) → is_open m.burst ≡ true → is_whole m.device.kind m.burst ≡ true → Kept m h → Kept (ended (delivering m)) (closed ∷ h)
unfolding delivering
kept_whole m h o w k = closes m (ended (delivering m)) h true o w (ended-device (delivering m)) refl (enters-whole m h (kind-is k) k.tidy k.right)
    (tidy-ended (delivering m) (tidy-delivering m k.tidy)) k

-- ---- F4 takes effect

took-idle : (d : Device) (v : ℕ) → runs (changes (took_f4 v) d).phase ≡ false
took-idle d v = pick (λ (p : Phase). runs p ≡ false) (asks_normal v && is_standby d.phase) (λ _. refl) (λ _. refl)

-- what F4 with v adds, where one begins (b) or none
abbrev taking : {kind : Kind} → ℕ → Bool → List (Happening kind)
taking v b = cond b (began ∷ changed (took_f4 v) ∷ []) (changed (took_f4 v) ∷ [])

kept-effect : {kind : Kind} (m : Machine) (v : ℕ) (h : List (Happening kind)) → busy m ≡ false → is_barred (control.begins m.device.phase v) m.ledger ≡ false → Kept m h
    → Kept (effect m v) (takes h v ++ h)
unfolding effect
kept-effect m v h i f k =
    rw (← k.device-is)
    (subst (λ (b : Bool). Kept (with_device (control.controlled m.device v) (with_ledger (begun_if b m.ledger) m)) (taking v (begins_by m.device.phase v) ++ h))
    (sym (begins-is m.device v i)) (at (begins_by m.device.phase v) refl))
  where
    set : Machine
    set = with_device (changes (took_f4 v) m.device) m

    set-kept : Kept set (changed (took_f4 v) ∷ h)
    set-kept = kept-changed (took_f4 v) m h (took-idle m.device v ∙ sym i) (λ u. absurd (true≢false (sym u ∙ i))) (λ _. refl) k

    at : (b : Bool) → begins_by m.device.phase v ≡ b → Kept (with_device (control.controlled m.device v) (with_ledger (begun_if b m.ledger) m)) (taking v b ++ h)
    at true e = rw (takes-begun m.device v i e)
        (kept-began set (changed (took_f4 v) ∷ h) (took-idle m.device v) (leb-false reg.most_begun m.ledger.begun (rw (begins-is m.device v i, e) at f)) set-kept)
    at false e = rw (takes-else m.device v i e) set-kept

-- ---- a finish, and then a held F4 takes effect

rested-held : (d : Device) → (rested d).held ≡ d.held
rested-held d = pick (λ (k : Device). k.held ≡ d.held) (state.is_forced d.phase) (λ _. refl) (λ _. refl)

kept-held : {kind : Kind} (m : Machine) (q : Option ℕ) (x y z : ℕ) (h : List (Happening kind)) → m.device.held ≡ q → busy m ≡ true
    → is_barred (control.held_begins q (rested m.device).phase) m.ledger ≡ false → Kept m h
    → Kept (held_effect q (lands m (rested m.device) x y z)) (takes_held q (finished x y z ∷ h) ++ finished x y z ∷ h)
unfolding held_effect effect
kept-held m None x y z h e u f k =
    subst (λ (d : Device). Kept (lands m d x y z) (finished x y z ∷ h)) (sym (rests-as m.device) ∙ ap (λ (q : Option ℕ). with_held q (rested m.device)) (sym (rested-held m.device ∙ e)))
    (kept-finished m x y z h u k)
kept-held m (Some v) x y z h e u f k =
    subst (λ (d : Device). Kept (effect (lands m d x y z) v) (takes (finished x y z ∷ h) v ++ finished x y z ∷ h)) (sym (rests-as m.device))
    (kept-effect (lands m (finishes m.device) x y z) v (finished x y z ∷ h) (finished-idle m.device)
    (rw (landed-begun m (finished_one m (data_bytes m.device.kind m.device.codes x y z)), ← rested-phase m.device) f) (kept-finished m x y z h u k))

-- ---- the events

-- F5 without its bit 1
bit-dropped : (v : ℕ) → v / 4 * 4 + v % 2 ≡ v - v % 4 + v % 2
bit-dropped v = omega arith

written-f4 : {kind : Kind} (m : Machine) (v : ℕ) (h : List (Happening kind)) → busy m ≡ false → is_barred (control.begins m.device.phase v) m.ledger ≡ false → Kept m h
    → Kept (effect m v) (writes_f4 h v ++ h)
written-f4 m v h i b k =
    let idle : is_converting (device_in h).phase ≡ false = rw (← k.device-is, ← runs-is m.device.phase) i in
    subst (λ (t : Bool). Kept (effect m v) (cond t (changed (held_f4 v) ∷ []) (takes h v) ++ h)) (sym idle) (kept-effect m v h i b k)

kept-finish : {kind : Kind} (m : Machine) (x y z : ℕ) → busy m ≡ true → in_range x y z ≡ true → is_barred (held_will_begin m.device) m.ledger ≡ false
    → (h : List (Happening kind)) → Kept m h → Kept (converted m (stored m.device x y z)) ((takes_held (device_in h).held (finished x y z ∷ h) ++ finished x y z ∷ []) ++ h)
kept-finish m x y z u r f h k =
    subst (λ (bs : List ℕ). Kept (converted m bs) ((takes_held (device_in h).held (finished x y z ∷ h) ++ finished x y z ∷ []) ++ h)) (sym (lays m.device x y z))
    (subst (λ (d : Device). Kept (converted m (data_bytes m.device.kind m.device.codes x y z)) ((takes_held d.held (finished x y z ∷ h) ++ finished x y z ∷ []) ++ h)) k.device-is
    (rw append_assoc (kept-held m m.device.held x y z h refl u f k)))

kept-wake : {kind : Kind} (m : Machine) → stands_by m.device.phase ≡ true → is_barred true m.ledger ≡ false → (h : List (Happening kind)) → Kept m h → Kept (awake m) (began ∷ h)
kept-wake m y b h k =
    subst (λ (d : Device). Kept (with_device d (with_ledger (begun_if true m.ledger) m)) (began ∷ h)) (wakes-as m.device y)
    (kept-began m h (standing-idle m.device.phase y) (leb-false reg.most_begun m.ledger.begun b) k)

kept_gives : {kind : Kind} (m : Machine) (i j : ℕ) → m.burst ≡ burst_at i j → ltb reg.last_register j ≡ false → (h : List (Happening kind)) → Kept m h
    → Kept (with_burst (burst_at i (j + 1)) m) (gave (byte_given m).value ∷ h)
kept_gives m i j e l h k = rw (gives-value m i j e l) (kept-gave m i j h e k)

abbrev Keeps : Kind → Machine → Event → Outcome → Type 0
Keeps kind m e o = (h : List (Happening kind)) → Kept m h → Kept o.machine (added o.answer h e (byte_given m).value ++ h)

keeps : (kind : Kind) → Steps (Keeps kind)
keeps kind = record {
  refuses = λ m e n r h k. rw (refuses-not-done r) k;
  powers = kept-lost;
  copies = λ m c h k. kept-changed copied m h refl (λ _. refl) k.tidy.none-held k;
  resets = λ m o h k. kept-lost m h k;
  writes-f2 = λ m v c f h k. kept-changed (wrote_f2 v) m h refl (λ _. refl) k.tidy.none-held k;
  writes-f5 = λ m v c s h k. rw (bit-dropped v) (kept-changed (wrote_f5 v) m h refl (λ _. refl) k.tidy.none-held k);
  holds-f4 = λ m v c u q h k. rw (← k.device-is, ← runs-is m.device.phase, u) (kept-changed (held_f4 v) m h refl (λ _. refl) (λ i. absurd (true≢false (sym u ∙ i))) k);
  takes-f4 = λ m v c i b h k. written-f4 m v h i b k;
  finishes = λ m x y z u. kept-finish m x y z (and_right (not m.device.copying) (busy m) u);
  wakes = λ m y b h k. kept-wake m y b h k;
  opens = λ m a o r h k. kept-opened m a h o k;
  gives = kept_gives;
  ends-whole = λ m o w h k. kept_whole m h o w k;
  ends-partial = λ m o w h k. kept-partial m h o w k;
}

pub kept-after : {kind : Kind} (m : Machine) (h : List (Happening kind)) (es : List Event) → Kept m h → Kept (after m es) (added_after m h es)
kept-after m h [] k = k
kept-after {kind} m h (e ∷ es) k = kept-after (next m e) (added (answer m e) h e (byte_given m).value ++ h) es (walk (Keeps kind) (keeps kind) m e h k)

-- after every list of events from the fresh state
pub kept : (kind : Kind) (es : List Event) → Kept (after (state.fresh kind) es) (history kind es)
kept kind es = kept-after (state.fresh kind) [] es (kept_fresh kind)
