-- The kind stays through every event, by the walk. What a BMP280 has of its own follows from its row of the table.
use Prim.Native.Nat.{ℕ, ◌≤◌}
use mathlib.Core.Path.{◌≡◌, refl, sym, ◌∙◌}
use mathlib.Core.Bool.{true, false, not, true≢false}
use native.Mathlib.Omega.{arith}
use lib.Dec.{eqb}
use borrow.Author.Tests.{ne_eqb, lt-ltb, eqb-true, not-true, not-false}
use Rattle.std.specs.Prelude.{Option, None, Some}
use Rattle.laws.specs.Choices.{pick}
use Rattle.paper.specs.Numbers.{wrong_length, address_not_allowed}
use Rattle.paper.specs.Registers as reg
use Rattle.kinds.specs.declared.Kind.TheVariants.{Bmp280}
use Rattle.kinds.specs.Chips.{facts}
use Rattle.machine.specs.declared.Device.{Device}
use Rattle.machine.specs.declared.Machine.{Machine}
use Rattle.machine.specs.declared.Outcome.{Outcome}
use Rattle.machine.specs.declared.Event.{Event}
use Rattle.machine.specs.declared.Event.TheVariants.{Write, Close}
use Rattle.machine.specs.State.{is_forced, is_open, is_there}
use Rattle.machine.specs.Control.{effect, held_effect}
use Rattle.machine.specs.Data.{stored, register}
use Rattle.machine.specs.Events.{rested, showing, keeping, delivering, waiting_shown, ended}
use Rattle.machine.specs.Event.{answer}
use Rattle.machine.specs.Bmp280.{KindStays, WithoutHumidity, Examples}
use Rattle.machine.proofs.Walk.{Steps, walk}

abbrev Stays : Machine → Event → Outcome → Type 0
Stays m e o = o.machine.device.kind ≡ m.device.kind

pub rested-kind : (d : Device) → (rested d).kind ≡ d.kind
rested-kind d = pick (λ (x : Device). x.kind ≡ d.kind) (is_forced d.phase) (λ _. refl) (λ _. refl)

takes : (h : Option ℕ) (m : Machine) → (held_effect h m).device.kind ≡ m.device.kind
unfolding effect held_effect
takes None m = refl
takes (Some v) m = refl

ends : (m : Machine) → (ended m).device.kind ≡ m.device.kind
unfolding showing waiting_shown
ends m = pick (λ (x : Machine). x.device.kind ≡ m.device.kind) (is_there m.waiting) (λ _. refl) (λ _. refl)

stays : Steps Stays
unfolding effect delivering
stays = record {
  refuses = λ m e n r. refl;
  powers = λ m. refl;
  copies = λ m c. refl;
  resets = λ m o. refl;
  writes-f2 = λ m v c f. refl;
  writes-f5 = λ m v c s. refl;
  holds-f4 = λ m v c u q. refl;
  takes-f4 = λ m v c i b. refl;
  finishes = λ m t p h u r b. takes m.device.held _ ∙ rested-kind m.device;
  wakes = λ m y b. refl;
  opens = λ m a o r. refl;
  gives = λ m first at e l. refl;
  ends-whole = λ m o w. ends (delivering m);
  ends-partial = λ m o w. ends m;
}

pub kind-stays : (m : Machine) (e : Event) → KindStays m e
kind-stays m e = record { kind-is = walk Stays stays m e }

-- ---- of every BMP280

module _ (m : Machine) (is : m.device.kind ≡ Bmp280) where
  -- no address from 0xE1 to 0xE7 is one of a register, and all are below the data
  block-two : (a : ℕ) → 0xE1 ≤ a → a ≤ 0xE7 → register a m ≡ 0
  block-two a l u =
      rw (
        ne_eqb a reg.chip_id (λ e. omega arith),
        ne_eqb a reg.ctrl_hum (λ e. omega arith),
        ne_eqb a reg.status (λ e. omega arith),
        ne_eqb a reg.ctrl_meas (λ e. omega arith),
        ne_eqb a reg.config (λ e. omega arith),
        lt-ltb a reg.first_data (omega arith),
      )

  refuses-f2 : is_open m.burst ≡ false → (v : ℕ) → answer m (Write reg.ctrl_hum v) ≡ address_not_allowed
  refuses-f2 o v =
      pick (λ (x : Outcome). x.answer ≡ address_not_allowed) (is_open m.burst) (λ t. absurd (true≢false (sym t ∙ o))) λ _. rw is

  refuses-others : is_open m.burst ≡ true → (n : ℕ) → (n ≡ 6 → ⊥) → answer m (Close n) ≡ wrong_length
  refuses-others o n six =
      let Is : Outcome → Type 0 = λ x. x.answer ≡ wrong_length in
      pick Is (not (is_open m.burst)) (λ t. absurd (true≢false (sym o ∙ not-true (is_open m.burst) t))) λ _.
      pick Is (not (eqb n (facts m.device.kind).bytes)) (λ _. refl) λ w.
      absurd (six (eqb-true n 6 (rw is at (not-false (eqb n (facts m.device.kind).bytes) w))))

  pub without-humidity : WithoutHumidity m
  without-humidity = record {
    id-is = rw is;
    no-f2 = rw is;
    no-fd = rw is;
    no-fe = rw is;
    no-block-two = block-two;
    latches-0 = λ v. rw is;
    f2-refused = refuses-f2;
    wants-six = refuses-others;
  }

pub examples : Examples
unfolding effect held_effect stored showing keeping delivering waiting_shown
examples = record {
  six-are-whole = refl;
  six-written = refl;
  third-is-0 = refl;
  past-is-0 = refl;
  five-are-partial = refl;
  none_written = refl;
  nothing-shown = refl;
  nothing-past = refl;
  third-is-checked = refl;
  f2-while-copying = refl;
  f2-in-a-burst = refl;
  id-after-reset = refl;
  id-after-power = refl;
}
