-- What holds of a machine besides what the book says stays so at each step.
use Prim.Native.Nat.{ℕ}
use mathlib.Core.Path.{◌≡◌, refl, sym, ap, ◌∙◌}
use mathlib.Core.Bool.{Bool, true, false, true≢false}
use Rattle.std.specs.Prelude.{Option, None}
use Rattle.laws.specs.Choices.{pick}
use Rattle.machine.specs.declared.OpenBurst.{OpenBurst}
use Rattle.machine.specs.declared.Conversion.{Conversion}
use Rattle.machine.specs.declared.Device.{Device}
use Rattle.machine.specs.declared.Ledger.{Ledger}
use Rattle.machine.specs.declared.Machine.{Machine}
use Rattle.machine.specs.Fields.{with_device, with_burst}
use Rattle.machine.specs.State.{is_open, is_there, is_unread}
use Rattle.machine.specs.Counts.{delivered_if, overwritten_if}
use Rattle.machine.specs.Events.{showing, keeping, landed, delivering, waiting_shown, ended}
use Rattle.ledger.proofs.Book.{nonzero}
use Rattle.ledger.proofs.Entries.{lands, Tidy}

pub overwritten-begun : (t : Bool) (l : Ledger) → (overwritten_if t l).begun ≡ l.begun
overwritten-begun true l = refl
overwritten-begun false l = refl

pub delivered-begun : (t : Bool) (l : Ledger) → (delivered_if t l).begun ≡ l.begun
delivered-begun true l = refl
delivered-begun false l = refl

pub landed-begun : (m : Machine) (c : Conversion) → (landed c m).ledger.begun ≡ m.ledger.begun
unfolding keeping showing
landed-begun m c =
    pick (λ (k : Machine). k.ledger.begun ≡ m.ledger.begun) (is_open m.burst)
    (λ _. overwritten-begun (is_unread m.waiting) m.ledger) (λ _. overwritten-begun (is_unread m.shown) m.ledger)

pub lands-burst : (m : Machine) (d : Device) (x y z : ℕ) → (lands m d x y z).burst ≡ m.burst
unfolding keeping showing
lands-burst m d x y z = pick (λ (n : Machine). n.burst ≡ m.burst) (is_open m.burst) (λ _. refl) (λ _. refl)

pub ended-device : (m : Machine) → (ended m).device ≡ m.device
unfolding showing waiting_shown
ended-device m = pick (λ (n : Machine). n.device ≡ m.device) (is_there m.waiting) (λ _. refl) (λ _. refl)

pub ended-begun : (m : Machine) → (ended m).ledger.begun ≡ m.ledger.begun
unfolding showing waiting_shown
ended-begun m = pick (λ (n : Machine). n.ledger.begun ≡ m.ledger.begun) (is_there m.waiting) (λ _. overwritten-begun (is_unread m.shown) m.ledger) (λ _. refl)

pub tidy-lands : (m : Machine) (d : Device) (x y z : ℕ) → d.kind ≡ m.device.kind → nonzero m.ledger.begun ≡ true → d.held ≡ None → Tidy m → Tidy (lands m d x y z)
unfolding keeping showing
tidy-lands m d x y z same one n t =
    pick (λ (n : Machine). Tidy (with_device d n)) (is_open m.burst)
    (λ _. record {
      small = rw (overwritten-begun (is_unread m.waiting) m.ledger) t.small;
      none-shown = rw same t.none-shown;
      none-waits = λ z. absurd (true≢false (sym one ∙ z));
      unread-waits = refl;
      none-held = λ _. n;
    })
    (λ _. record {
      small = rw (overwritten-begun (is_unread m.shown) m.ledger) t.small;
      none-shown = λ z. absurd (true≢false (sym one ∙ z));
      none-waits = rw same t.none-waits;
      unread-waits = t.unread-waits;
      none-held = λ _. n;
    })

pub tidy-burst : (m : Machine) (b : Option OpenBurst) → Tidy m → Tidy (with_burst b m)
tidy-burst m b t = record { small = t.small; none-shown = t.none-shown; none-waits = t.none-waits; unread-waits = t.unread-waits; none-held = t.none-held }

pub tidy-ended : (m : Machine) → Tidy m → Tidy (ended m)
unfolding showing waiting_shown
tidy-ended m t =
    pick (λ (n : Machine). Tidy (with_burst None n)) (is_there m.waiting)
    (λ _. record {
      small = rw (overwritten-begun (is_unread m.shown) m.ledger) t.small;
      none-shown = t.none-waits;
      none-waits = λ z. refl;
      unread-waits = refl;
      none-held = t.none-held;
    })
    (λ _. tidy-burst m None t)

pub tidy-delivering : (m : Machine) → Tidy m → Tidy (delivering m)
unfolding delivering
tidy-delivering m t = record {
  small = rw (delivered-begun (is_unread m.shown) m.ledger) t.small;
  none-shown = λ z. ap (λ (c : Conversion). record { number = c.number; codes = c.codes; bytes = c.bytes; delivered = is_there c }) (t.none-shown z);
  none-waits = t.none-waits;
  unread-waits = t.unread-waits;
  none-held = t.none-held;
}
