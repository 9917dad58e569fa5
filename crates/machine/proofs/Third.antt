-- A BMP280's third code, and the places past its six bytes, are 0 after every list of events: each event keeps them so, by the walk.
use Prim.Native.Nat.{ℕ}
use mathlib.Core.Path.{◌≡◌, refl, ◌∙◌}
use mathlib.Core.List.{List, [], ◌∷◌}
use lib.ListN.{drop}
use Rattle.std.specs.Prelude.{Option, None, Some}
use Rattle.laws.specs.Choices.{pick}
use Rattle.kinds.specs.declared.Kind.{Kind}
use Rattle.kinds.specs.declared.Kind.TheVariants.{Bmp280}
use Rattle.machine.specs.declared.Conversion.{Conversion}
use Rattle.machine.specs.declared.Device.{Device}
use Rattle.machine.specs.declared.Machine.{Machine}
use Rattle.machine.specs.declared.Outcome.{Outcome}
use Rattle.machine.specs.declared.Event.{Event}
use Rattle.machine.specs.Fields.{with_device, with_burst}
use Rattle.machine.specs.State.{fresh, no_conversion, is_forced, is_open, is_there}
use Rattle.machine.specs.Control.{effect, held_effect}
use Rattle.machine.specs.Data.{stored}
use Rattle.machine.specs.Events.{answered, reset, rested, finished_one, showing, keeping, landed, delivering, waiting_shown, ended}
use Rattle.machine.specs.Event.{next, after}
use Rattle.machine.specs.Bmp280.{ThirdIsZero, NoThird}
use Rattle.machine.proofs.Walk.{Steps, walk}
use Rattle.machine.proofs.Bmp280.{rested-kind}

abbrev IsZero : Conversion → Type 0
IsZero c = ThirdIsZero c.codes c.bytes

record Zero (m : Machine) : Type 0 where
  kind-is : m.device.kind ≡ Bmp280
  latched-is : m.device.codes.humidity ≡ 0
  shown-is : IsZero m.shown
  waiting-is : IsZero m.waiting

-- what leaves the kind, the codes and both conversions as they were
like : (m n : Machine) → n.device.kind ≡ m.device.kind → n.device.codes ≡ m.device.codes → n.shown ≡ m.shown → n.waiting ≡ m.waiting → Zero m → Zero n
like m n k c s w z = record { kind-is = rw k z.kind-is; latched-is = rw c z.latched-is; shown-is = rw s z.shown-is; waiting-is = rw w z.waiting-is }

none_is : (kind : Kind) → kind ≡ Bmp280 → IsZero (no_conversion kind)
none_is kind e = record { code = refl; past = rw e refl }

rested-codes : (d : Device) → (rested d).codes.humidity ≡ d.codes.humidity
rested-codes d = pick (λ (x : Device). x.codes.humidity ≡ d.codes.humidity) (is_forced d.phase) (λ _. refl) (λ _. refl)

zero-effect : (m : Machine) (v : ℕ) → Zero m → Zero (effect m v)
unfolding effect
zero-effect m v z = record { kind-is = z.kind-is; latched-is = rw z.kind-is; shown-is = z.shown-is; waiting-is = z.waiting-is }

zero_held : (h : Option ℕ) (m : Machine) → Zero m → Zero (held_effect h m)
unfolding held_effect
zero_held None m z = z
zero_held (Some v) m z = zero-effect m v z

stored-zero : (d : Device) (t p h : ℕ) → d.kind ≡ Bmp280 → drop 6 (stored d t p h) ≡ 0 ∷ 0 ∷ []
unfolding stored
stored-zero d t p h e = rw e

zero-finished : (m : Machine) (t p h : ℕ) → Zero m → IsZero (finished_one m (stored m.device t p h))
zero-finished m t p h z = record { code = z.latched-is; past = stored-zero m.device t p h z.kind-is }

-- it lands, and the device rests
zero-landed : (m : Machine) (c : Conversion) → IsZero c → Zero m → Zero (with_device (rested m.device) (landed c m))
unfolding keeping showing
zero-landed m c i z =
    let same = rested-kind m.device ∙ z.kind-is in
    let codes = rested-codes m.device ∙ z.latched-is in
    pick (λ (x : Machine). Zero (with_device (rested m.device) x)) (is_open m.burst)
    (λ _. record { kind-is = same; latched-is = codes; shown-is = z.shown-is; waiting-is = i })
    (λ _. record { kind-is = same; latched-is = codes; shown-is = i; waiting-is = z.waiting-is })

zero-delivering : (m : Machine) → Zero m → Zero (delivering m)
unfolding delivering
zero-delivering m z = record {
  kind-is = z.kind-is;
  latched-is = z.latched-is;
  shown-is = record { code = z.shown-is.code; past = z.shown-is.past };
  waiting-is = z.waiting-is;
}

zero_ended : (m : Machine) → Zero m → Zero (ended m)
unfolding showing waiting_shown
zero_ended m z =
    pick (λ (x : Machine). Zero (with_burst None x)) (is_there m.waiting)
    (λ _. record { kind-is = z.kind-is; latched-is = z.latched-is; shown-is = z.waiting-is; waiting-is = none_is m.device.kind z.kind-is })
    (λ _. like m _ refl refl refl refl z)

-- the machine afterwards, and what is handed back
record Handed (o : Outcome) : Type 0 where
  machine-is : Zero o.machine
  outcome-is : ThirdIsZero o.codes o.bytes

plain : {n : ℕ} (m : Machine) → Zero m → Handed (answered n m)
plain m z = record { machine-is = z; outcome-is = record { code = refl; past = refl } }

abbrev Hands : Machine → Event → Outcome → Type 0
Hands m e o = Zero m → Handed o

zero-reset : (m : Machine) → Zero m → Zero (reset m)
zero-reset m z = let none = none_is m.device.kind z.kind-is in record { kind-is = z.kind-is; latched-is = refl; shown-is = none; waiting-is = none }

hands : Steps Hands
hands = record {
  refuses = λ m e n r z. plain m z;
  powers = λ m z. plain _ (zero-reset m z);
  copies = λ m c z. plain _ (like m _ refl refl refl refl z);
  resets = λ m o z. plain _ (zero-reset m z);
  writes-f2 = λ m v c f z. plain _ (like m _ refl refl refl refl z);
  writes-f5 = λ m v c s z. plain _ (like m _ refl refl refl refl z);
  holds-f4 = λ m v c u q z. plain _ (like m _ refl refl refl refl z);
  takes-f4 = λ m v c i b z. plain _ (zero-effect m v z);
  finishes = λ m t p h u r b z. plain _ (zero_held m.device.held _ (zero-landed m _ (zero-finished m t p h z) z));
  wakes = λ m y b z. plain _ (like m _ refl refl refl refl z);
  opens = λ m a o r z. plain _ (like m _ refl refl refl refl z);
  gives = λ m first at e l z. record {
    machine-is = like m _ refl refl refl refl z;
    outcome-is = record { code = refl; past = refl };
  };
  ends-whole = λ m o w z. record { machine-is = zero_ended (delivering m) (zero-delivering m z); outcome-is = z.shown-is };
  ends-partial = λ m o w z. plain _ (zero_ended m z);
}

zero-after : (m : Machine) (es : List Event) → Zero m → Zero (after m es)
zero-after m [] z = z
zero-after m (e ∷ es) z = zero-after (next m e) es (walk Hands hands m e z).machine-is

zero-fresh : Zero (fresh Bmp280)
zero-fresh = let none = none_is Bmp280 refl in record { kind-is = refl; latched-is = refl; shown-is = none; waiting-is = none }

pub no_third : (es : List Event) → NoThird es
no_third es = let z = zero-after (fresh Bmp280) es zero-fresh in record {
  latched-is = z.latched-is;
  shown-is = z.shown-is;
  waiting-is = z.waiting-is;
  handed-back = λ e. (walk Hands hands (after (fresh Bmp280) es) e z).outcome-is;
}
