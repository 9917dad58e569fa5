-- A refused or ignored event changes nothing.
use Prim.Native.Nat.{ℕ}
use mathlib.Core.Path.{◌≡◌, refl}
use mathlib.Core.List.{List}
use Rattle.paper.specs.Numbers.{done}
use Rattle.machine.specs.declared.Machine.{Machine}
use Rattle.machine.specs.declared.Outcome.{Outcome}
use Rattle.machine.specs.declared.Event.{Event}
use Rattle.machine.specs.Events.{written_to}
use Rattle.machine.specs.Event.{answer}
use Rattle.machine.specs.Refused.{Unchanged}
use Rattle.machine.proofs.Walk.{Steps, walk}

abbrev Stays : Machine → Event → Outcome → Type 0
Stays m e o = (o.answer ≡ done → ⊥) → (o.machine ≡ m) × ((lent : List ℕ) → written_to m.device.kind o lent ≡ lent)

stays : Steps Stays
stays = record {
  refuses = λ m e n r z. (refl, λ lent. refl);
  powers = λ m z. absurd (z refl);
  copies = λ m c z. absurd (z refl);
  resets = λ m o z. absurd (z refl);
  writes-f2 = λ m v c f z. absurd (z refl);
  writes-f5 = λ m v c s z. absurd (z refl);
  holds-f4 = λ m v c u q z. absurd (z refl);
  takes-f4 = λ m v c i b z. absurd (z refl);
  finishes = λ m t p h u r b z. absurd (z refl);
  wakes = λ m y b z. absurd (z refl);
  opens = λ m a o r z. absurd (z refl);
  gives = λ m first at e l z. absurd (z refl);
  ends-whole = λ m o w z. absurd (z refl);
  ends-partial = λ m o w z. absurd (z refl);
}

pub refused : (m : Machine) (e : Event) → (answer m e ≡ done → ⊥) → Unchanged m e
refused m e z = let s = walk Stays stays m e z in record { machine = s.0; lent = s.1 }
