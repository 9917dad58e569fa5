-- A finish waits for a copied event; and a conversion that gets none runs on, whatever else comes.
use Prim.Native.Nat.{ℕ}
use mathlib.Core.Path.{◌≡◌, refl, sym, ap, ◌∙◌, subst}
use mathlib.Core.Bool.{Bool, true, false, not, ◌&&◌, or-true, false≢true, true≢false}
use mathlib.Core.List.{List, [], ◌∷◌, ◌++◌}
use native.Mathlib.Omega.{arith}
use lib.Dec.{eqb}
use borrow.Author.Tests.{eq-eqb, eqb-true, not-true}
use Rattle.laws.specs.Tests.{both}
use Rattle.paper.specs.Numbers.{done, burst_is_open, wrong_phase}
use Rattle.kinds.specs.declared.Kind.{Kind}
use Rattle.machine.specs.declared.Machine.{Machine}
use Rattle.machine.specs.declared.Outcome.{Outcome}
use Rattle.machine.specs.declared.Event.{Event}
use Rattle.machine.specs.declared.Event.TheVariants.{Power, Copied, Write, Finish, Wake, Open, Byte, Close}
use Rattle.machine.specs.State.{fresh, runs, is_open, is_unread}
use Rattle.machine.specs.Events.{answered, reset, byte_given, delivering, ended}
use Rattle.machine.specs.Event.{stepped, next, answer, after}
use Rattle.machine.specs.Refused.{Unchanged}
use Rattle.machine.proofs.Walk.{Steps, walk}
use Rattle.machine.proofs.Refused.{refused}
use Rattle.ledger.specs.Happening.{Happening, lost}
use Rattle.ledger.specs.Device.{is_converting, device_in}
use Rattle.ledger.specs.History.{Where, open_in, unbegun, running, waiting, shown, gone, is_running, is_present, begun_in, where_is, delivered, abandoned, standing, lost_since}
use Rattle.ledger.specs.Added.{adds, history}
use Rattle.ledger.specs.Copying.{FinishWaits, StandbyIsCopied, awaits_copied, ends_wait, EndsTheWait, NoneEnds, StandsUncopied}
use Rattle.ledger.proofs.Tests.{and_left, passed}
use Rattle.ledger.proofs.Control.{runs-is, standing-idle}
use Rattle.ledger.proofs.Tidy.{ended-device, ended-begun, delivered-begun}
use Rattle.ledger.proofs.Kept.{kept}
use Rattle.ledger.proofs.Theorems.{counts-are-true, standing-is-named}
use Rattle.ledger.proofs.Numbers.{runs-in}
use Rattle.ledger.proofs.Turn.{copies}
use Rattle.ledger.proofs.Calm.{calm}
use Rattle.ledger.proofs.Alive.{copying-now, after-append, added-append}

-- ---- a finish waits

module _ (m : Machine) (c : m.device.copying ≡ true) (t p u : ℕ) where
  six : answer m (Finish t p u) ≡ wrong_phase
  six = rw c

  leaves : Unchanged m (Finish t p u)
  leaves = refused m (Finish t p u) (λ e. let z : wrong_phase ≡ done = sym six ∙ e in omega arith)

pub finish-waits : (kind : Kind) (es : List Event) → FinishWaits (after (fresh kind) es) (history kind es)
finish-waits kind es = let now = copying-now kind es true in record { number_is = λ c. six (after (fresh kind) es) (now c); leaves_all = λ c. leaves (after (fresh kind) es) (now c) }

pub standby-is-copied : (kind : Kind) (es : List Event) → StandbyIsCopied (after (fresh kind) es)
standby-is-copied kind es = record { not-copying = calm kind es }

-- ---- what ends the wait

-- the reset word written to E0 while no burst is open
by_word : (m : Machine) → is_open m.burst ≡ false → stepped m (Write 0xE0 0xB6) ≡ answered done (reset m)
by_word m o = passed (is_open m.burst) (answered burst_is_open m) (answered done (reset m)) o

ends-wait : (m : Machine) (e : Event) → ends_wait (is_open m.burst) e ≡ true → awaits_copied (next m e).device ≡ false
ends-wait m Power z = refl
ends-wait m Copied z = ap (λ (k : Machine). awaits_copied k.device) (copies m)
ends-wait m (Write a v) z =
    let w = both (not (is_open m.burst)) (eqb a 0xE0 && eqb v 0xB6) z in
    let is = both (eqb a 0xE0) (eqb v 0xB6) w.1 in
    rw (eqb-true a 0xE0 is.0, eqb-true v 0xB6 is.1) (ap (λ (x : Outcome). awaits_copied x.machine.device) (by_word m (not-true (is_open m.burst) w.0)))
ends-wait m (Finish t p u) z = absurd (false≢true z)
ends-wait m Wake z = absurd (false≢true z)
ends-wait m (Open a) z = absurd (false≢true z)
ends-wait m Byte z = absurd (false≢true z)
ends-wait m (Close n) z = absurd (false≢true z)

-- the burst that is open is the history's
asked : (kind : Kind) (es : List Event) (e : Event) → ends_wait (is_open (after (fresh kind) es).burst) e ≡ ends_wait (open_in (history kind es)) e
asked kind es e = ap (λ (o : Bool). ends_wait o e) (kept kind es).right.open_is

pub ends-the-wait : (kind : Kind) (es : List Event) (e : Event) → EndsTheWait (after (fresh kind) es) (history kind es) e
ends-the-wait kind es e = record { awaits-no-more = λ z. ends-wait (after (fresh kind) es) e (asked kind es e ∙ z) }

-- ---- what is never copied stands

-- n goes on from m as it was: running, copying, none more begun
record GoesOn (m n : Machine) : Type 0 where
  pub runs-now : runs n.device.phase ≡ true
  pub copying-now : n.device.copying ≡ true
  pub begun-is : n.ledger.begun ≡ m.ledger.begun

same : (m n : Machine) → runs m.device.phase ≡ true → m.device.copying ≡ true → n.device ≡ m.device → n.ledger.begun ≡ m.ledger.begun → GoesOn m n
same m n u c d b = record { runs-now = rw d u; copying-now = rw d c; begun-is = b }

abbrev Stays : Machine → Event → Outcome → Type 0
Stays m e o = runs m.device.phase ≡ true → m.device.copying ≡ true → ends_wait (is_open m.burst) e ≡ false → GoesOn m o.machine

ends : (m k : Machine) → runs m.device.phase ≡ true → m.device.copying ≡ true → k.device ≡ m.device → k.ledger.begun ≡ m.ledger.begun → GoesOn m (ended k)
ends m k u c d b = same m (ended k) u c (ended-device k ∙ d) (ended-begun k ∙ b)

stays : Steps Stays
unfolding delivering
stays = record {
  refuses = λ m e n r u c z. same m m u c refl refl;
  powers = λ m u c z. absurd (true≢false z);
  copies = λ m e u c z. absurd (true≢false z);
  resets = λ m o u c z. absurd (true≢false (ap (λ (b : Bool). not b && true) (sym o) ∙ z));
  writes-f2 = λ m v w f u c z. record { runs-now = u; copying-now = c; begun-is = refl };
  writes-f5 = λ m v w s u c z. record { runs-now = u; copying-now = c; begun-is = refl };
  holds-f4 = λ m v w r q u c z. record { runs-now = u; copying-now = c; begun-is = refl };
  takes-f4 = λ m v w i b u c z. absurd (true≢false (sym u ∙ i));
  finishes = λ m t p h f r b u c z. absurd (false≢true (ap not (sym c) ∙ and_left (not m.device.copying) (runs m.device.phase) f));
  wakes = λ m y b u c z. absurd (true≢false (sym u ∙ standing-idle m.device.phase y));
  opens = λ m a o r u c z. same m _ u c refl refl;
  gives = λ m first at e l u c z. same m _ u c refl refl;
  ends-whole = λ m o w u c z. ends m (delivering m) u c refl (delivered-begun (is_unread m.shown) m.ledger);
  ends-partial = λ m o w u c z. ends m m u c refl refl;
}

then : {m n k : Machine} → GoesOn m n → GoesOn n k → GoesOn m k
then f g = record { runs-now = g.runs-now; copying-now = g.copying-now; begun-is = g.begun-is ∙ f.begun-is }

goes_on : (kind : Kind) (es fs : List Event) → runs (after (fresh kind) es).device.phase ≡ true → (after (fresh kind) es).device.copying ≡ true → NoneEnds kind es fs
    → GoesOn (after (fresh kind) es) (after (fresh kind) (es ++ fs))
goes_on kind es [] u c z =
    let none = after-append (fresh kind) es [] in
    same (after (fresh kind) es) _ u c (ap (λ (m : Machine). m.device) none) (ap (λ (m : Machine). m.ledger.begun) none)
goes_on kind es (f ∷ fs) u c z =
    let one = after-append (fresh kind) es (f ∷ []) in
    let rest = after-append (fresh kind) (es ++ f ∷ []) fs ∙ ap (λ (m : Machine). after m fs) one ∙ sym (after-append (fresh kind) es (f ∷ fs)) in
    let first = walk Stays stays (after (fresh kind) es) f u c (asked kind es f ∙ z.0) in
    let g : GoesOn (after (fresh kind) es) (after (fresh kind) (es ++ f ∷ [])) = subst (GoesOn (after (fresh kind) es)) (sym one) first in
    subst (GoesOn (after (fresh kind) es)) rest (then g (goes_on kind (es ++ f ∷ []) fs g.runs-now g.copying-now z.1))

is-running : (w : Where) → is_running w ≡ true → w ≡ running
is-running unbegun e = absurd (false≢true e)
is-running running e = refl
is-running waiting e = absurd (false≢true e)
is-running shown e = absurd (false≢true e)
is-running gone e = absurd (false≢true e)

-- what a reset or power event adds
lost-after : (kind : Kind) (es : List Event) (e : Event) → answer (after (fresh kind) es) e ≡ done → adds (history kind es) e (byte_given (after (fresh kind) es)).value ≡ lost ∷ []
    → history kind (es ++ e ∷ []) ≡ lost ∷ history kind es
lost-after kind es e d a = added-append (fresh kind) [] es (e ∷ []) ∙ rw (d, a)

pub stands-uncopied : (kind : Kind) (es fs : List Event) → awaits_copied (device_in (history kind es)) ≡ true → NoneEnds kind es fs → StandsUncopied kind es fs
stands-uncopied kind es fs w z =
    let m = after (fresh kind) es in
    let n = after (fresh kind) (es ++ fs) in
    let k = begun_in (history kind es) in
    let g = history kind (es ++ fs) in
    let d = device_in (history kind es) in
    let both-now = both d.copying (is_converting d.phase) w in
    let on = goes_on kind es fs (runs-in m (history kind es) (kept kind es) ∙ both-now.1) (copying-now kind es true both-now.0) z in
    let begun : n.ledger.begun ≡ k = on.begun-is ∙ (counts-are-true kind es).begun-is in
    let named = standing-is-named kind (es ++ fs) in
    let runs_on : is_running (where_is g k) ≡ true = named.running-is k ∙ rw (on.runs-now, begun, eq-eqb k k refl) in
    let stands : standing g k ≡ true = named.standing-is k ∙ rw runs_on in
    let free = (both (not (delivered g k)) (not (lost_since g k)) (both (is_present (where_is g k)) (not (delivered g k) && not (lost_since g k)) stands).1).0 in
    let lost-one : abandoned (lost ∷ g) k ≡ true = rw (is-running (where_is g k) runs_on, free) (or-true (abandoned g k)) in
    record {
      awaits-still = rw (on.copying-now, ← runs-is n.device.phase, on.runs-now);
      begun-is = begun;
      running-is = is-running (where_is g k) runs_on;
      standing-is = stands;
      power-abandons = subst (λ (l : List (Happening kind)). abandoned l k ≡ true) (sym (lost-after kind (es ++ fs) Power refl refl)) lost-one;
      reset-abandons = λ o.
          let d = ap (λ (x : Outcome). x.answer) (by_word n ((kept kind (es ++ fs)).right.open_is ∙ o)) in
          subst (λ (l : List (Happening kind)). abandoned l k ≡ true) (sym (lost-after kind (es ++ fs) (Write 0xE0 0xB6) d refl)) lost-one;
    }
