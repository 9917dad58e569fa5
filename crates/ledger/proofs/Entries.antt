-- The machine seen as a book: each of its steps is an entry. No count is cut, for with room below the limit none can reach it.
use Prim.Native.Nat.{ℕ, ◌+◌, ◌≤◌, ◌<◌}
use mathlib.Core.Path.{◌≡◌, refl, ap, ap₂, subst}
use mathlib.Core.Bool.{Bool, true, false, and-true, and-not_self}
use mathlib.Core.List.{List}
use native.Mathlib.Omega.{arith}
use Rattle.std.specs.Prelude.{None}
use Rattle.paper.specs.Registers.{most_begun}
use Rattle.kinds.specs.declared.Kind.{Kind}
use Rattle.machine.specs.declared.Conversion.{Conversion}
use Rattle.machine.specs.declared.Device.{Device}
use Rattle.machine.specs.declared.Ledger.{Ledger}
use Rattle.machine.specs.declared.Machine.{Machine}
use Rattle.machine.specs.Fields.{with_device, with_burst, with_waiting, with_ledger}
use Rattle.machine.specs.State.{no_conversion, fresh_with, runs, is_open, is_there, is_unread}
use Rattle.machine.specs.Counts.{begun_if, delivered_if, overwritten_if, abandoned_all}
use Rattle.machine.specs.Events.{reset, finished_one, showing, keeping, landed, delivering, waiting_shown, ended}
use Rattle.ledger.specs.Happening.{Happening, began, finished, lost, closed}
use Rattle.ledger.specs.Device.{zero_codes}
use Rattle.ledger.specs.Bytes.{data_bytes}
use Rattle.ledger.specs.History.{Measurement, bit}
use Rattle.ledger.proofs.Book.{Book, enter, same-ledger, begins, delivers, overwrites, abandons}
use Rattle.ledger.proofs.Right.{Right, right-sum}

abbrev pub measurement : Conversion → Measurement
measurement c = record { number = c.number; codes = c.codes; bytes = c.bytes }

abbrev pub book : Machine → Book
book m = record { burst = is_open m.burst; codes = m.device.codes; shown = measurement m.shown; read = m.shown.delivered; waiting = measurement m.waiting; ledger = m.ledger }

-- a conversion is running
abbrev pub busy : Machine → Bool
busy m = runs m.device.phase

-- the running conversion lands with the bytes of the three counts, and the device goes on as d
abbrev pub lands : Machine → Device → ℕ → ℕ → ℕ → Machine
lands m d x y z = with_device d (landed (finished_one m (data_bytes m.device.kind m.device.codes x y z)) m)

-- what holds of the machine besides what the book says
pub record Tidy (m : Machine) : Type 0 where
  pub small : m.ledger.begun ≤ most_begun
  pub none-shown : is_there m.shown ≡ false → m.shown ≡ no_conversion m.device.kind
  pub none-waits : is_there m.waiting ≡ false → m.waiting ≡ no_conversion m.device.kind
  pub unread-waits : m.waiting.delivered ≡ false
  pub none-held : busy m ≡ false → m.device.held ≡ None

-- ---- with room no count is cut

begun_more : (l : Ledger) → l.begun < most_begun → l.standing < most_begun → begun_if true l ≡ begins l
begun_more l p q = same-ledger (omega arith) refl refl refl (omega arith)

delivered-more : (t : Bool) (l : Ledger) → l.delivered + bit t ≤ most_begun → delivered_if t l ≡ delivers (bit t) l
delivered-more true l p = same-ledger refl (omega arith) refl refl refl
delivered-more false l p = same-ledger refl (omega arith) refl refl (omega arith)

overwritten-more : (t : Bool) (l : Ledger) → l.overwritten + bit t ≤ most_begun → overwritten_if t l ≡ overwrites (bit t) l
overwritten-more true l p = same-ledger refl refl (omega arith) refl refl
overwritten-more false l p = same-ledger refl refl (omega arith) refl (omega arith)

overwritten-none : (l : Ledger) → l ≡ overwrites 0 l
overwritten-none l = same-ledger refl refl (omega arith) refl (omega arith)

abandoned-more : (l : Ledger) → l.abandoned + l.standing ≤ most_begun → abandoned_all l ≡ abandons l
abandoned-more l p = same-ledger refl refl refl (omega arith) refl

-- ---- the steps, by the machine's kind of part, which is the history's

module _ {kind : Kind} (m : Machine) (h : List (Happening kind)) (same : m.device.kind ≡ kind) (t : Tidy m) (r : Right (busy m) (book m) h) where
  sum : m.ledger.delivered + m.ledger.overwritten + m.ledger.abandoned + m.ledger.standing ≡ m.ledger.begun
  sum = right-sum (busy m) (book m) h r

  pub enters-lost : (g : Bool) → book (reset m) ≡ enter {kind = kind} lost g zero_codes (book m)
  enters-lost g =
      subst (λ (k : Kind). book (reset m) ≡ enter {kind = k} lost g zero_codes (book m)) same
      (ap (λ (l : Ledger). book (fresh_with m.device.kind l)) (abandoned-more m.ledger (omega (arith, t.small, sum))))

  -- the device goes on as d
  pub enters-began : (g : Bool) (d : Device) → m.ledger.begun < most_begun
      → book (with_device d (with_ledger (begun_if true m.ledger) m)) ≡ enter {kind = kind} began g d.codes (book m)
  enters-began g d p = ap (λ (l : Ledger). book (with_device d (with_ledger l m))) (begun_more m.ledger p (omega (arith, sum)))

  pub enters-finished : (g : Bool) (d : Device) (x y z : ℕ) → (is_open m.burst ≡ false → is_there m.waiting ≡ false)
      → book (lands m d x y z) ≡ enter {kind = kind} (finished x y z) g d.codes (book m)
  unfolding keeping showing
  enters-finished g d x y z idle =
      subst (λ (k : Kind). book (lands m d x y z) ≡ enter {kind = k} (finished x y z) g d.codes (book m)) same (at (is_open m.burst) refl)
    where
      at : (o : Bool) → is_open m.burst ≡ o → book (lands m d x y z) ≡ enter {kind = m.device.kind} (finished x y z) g d.codes (book m)
      at true e = rw (e, t.unread-waits, and-true, overwritten-more (is_there m.waiting) m.ledger (omega (arith, t.small, sum, r.standing-is)), e)
      at false e = rw (e, t.none-waits (idle e), overwritten-more (is_unread m.shown) m.ledger (omega (arith, t.small, sum, r.standing-is)), e)

  pub enters-partial : book (ended m) ≡ enter {kind = kind} closed false m.device.codes (book m)
  unfolding showing waiting_shown
  enters-partial = subst (λ (k : Kind). book (ended m) ≡ enter {kind = k} closed false m.device.codes (book m)) same (at (is_there m.waiting) refl)
    where
      at : (w : Bool) → is_there m.waiting ≡ w → book (ended m) ≡ enter {kind = m.device.kind} closed false m.device.codes (book m)
      at true e = rw (e, t.unread-waits, overwritten-more (is_unread m.shown) m.ledger (omega (arith, t.small, sum, r.standing-is)))
      at false e = rw e (ap₂ (λ (w : Conversion) (l : Ledger). book (with_burst None (with_waiting w (with_ledger l m)))) (t.none-waits e) (overwritten-none m.ledger))

  pub enters-whole : book (ended (delivering m)) ≡ enter {kind = kind} closed true m.device.codes (book m)
  unfolding showing delivering waiting_shown
  enters-whole = subst (λ (k : Kind). book (ended (delivering m)) ≡ enter {kind = k} closed true m.device.codes (book m)) same (at (is_there m.waiting) refl)
    where
      more : delivered_if (is_unread m.shown) m.ledger ≡ delivers (bit (is_unread m.shown)) m.ledger
      more = delivered-more (is_unread m.shown) m.ledger (omega (arith, t.small, sum, r.standing-is))

      at : (w : Bool) → is_there m.waiting ≡ w → book (ended (delivering m)) ≡ enter {kind = m.device.kind} closed true m.device.codes (book m)
      at true e = rw (e, t.unread-waits, and-not_self (is_there m.shown), more)
      at false e = rw (e, t.none-waits e, more)
