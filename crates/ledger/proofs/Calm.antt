-- No standby is copying: a finish leads to it, which waits for copied, and nothing sets copying there.
use Prim.Native.Nat.{ℕ, ◌%◌}
use mathlib.Core.Path.{◌≡◌, refl, ap}
use mathlib.Core.Bool.{Bool, true, false, not, cond, false≢true}
use mathlib.Core.List.{List, [], ◌∷◌}
use lib.Dec.{eqb}
use borrow.Author.Tests.{not-true}
use Rattle.std.specs.Prelude.{Option, None, Some}
use Rattle.laws.specs.Choices.{pick}
use Rattle.kinds.specs.declared.Kind.{Kind}
use Rattle.machine.specs.declared.Phase.{Phase}
use Rattle.machine.specs.declared.Phase.TheVariants.{Sleep, Forced, Normal, Standby}
use Rattle.machine.specs.declared.Device.{Device}
use Rattle.machine.specs.declared.Machine.{Machine}
use Rattle.machine.specs.declared.Outcome.{Outcome}
use Rattle.machine.specs.declared.Event.{Event}
use Rattle.machine.specs.Fields.{with_device}
use Rattle.machine.specs.State.{fresh, runs, is_forced, stands_by}
use Rattle.machine.specs.Control.{phase_after, controlled, effect, held_effect}
use Rattle.machine.specs.Data.{stored}
use Rattle.machine.specs.Events.{may_finish, rested, finished_one, landed, delivering, ended}
use Rattle.machine.specs.Event.{next, after}
use Rattle.machine.proofs.Walk.{Steps, walk}
use Rattle.ledger.proofs.Tests.{and_left}
use Rattle.ledger.proofs.Control.{standing-idle}
use Rattle.ledger.proofs.Tidy.{ended-device}

abbrev Calm : Device → Type 0
Calm d = stands_by d.phase ≡ true → d.copying ≡ false

-- F4 that leads to standby was taken in standby
was-standing : (p : Phase) (v : ℕ) → stands_by (phase_after p v) ≡ true → stands_by p ≡ true
was-standing p v = at (eqb (v % 4) 0) (eqb (v % 4) 3) (stands_by p)
  where
    at : (z n s : Bool) → stands_by (cond z Sleep (cond n (cond s Standby Normal) Forced)) ≡ true → s ≡ true
    at true n s e = absurd (false≢true e)
    at false false s e = absurd (false≢true e)
    at false true true e = refl
    at false true false e = absurd (false≢true e)

calm-controlled : (d : Device) (v : ℕ) → Calm d → Calm (controlled d v)
calm-controlled d v c y = rw (standing-idle (phase_after d.phase v) y, c (was-standing d.phase v y))

-- a finish: nothing is being copied when the device rests
calm-rested : (d : Device) → may_finish d ≡ true → (rested d).copying ≡ false
calm-rested d f =
    let no = not-true d.copying (and_left (not d.copying) (runs d.phase) f) in
    pick (λ (k : Device). k.copying ≡ false) (is_forced d.phase) (λ _. no) (λ _. no)

calm-held : (q : Option ℕ) (d : Device) (m : Machine) → Calm d → Calm (held_effect q (with_device d m)).device
unfolding effect held_effect
calm-held None d m c = c
calm-held (Some v) d m c = calm-controlled d v c

calm-ended : (k : Machine) (d : Device) → k.device ≡ d → Calm d → Calm (ended k).device
calm-ended k d e c = rw (ended-device k, e) c

abbrev StaysCalm : Machine → Event → Outcome → Type 0
StaysCalm m e o = Calm m.device → Calm o.machine.device

stays-calm : Steps StaysCalm
unfolding effect delivering
stays-calm = record {
  refuses = λ m e n r c. c;
  powers = λ m c y. absurd (false≢true y);
  copies = λ m e c y. refl;
  resets = λ m o c y. absurd (false≢true y);
  writes-f2 = λ m v w f c. c;
  writes-f5 = λ m v w s c. c;
  holds-f4 = λ m v w r q c. c;
  takes-f4 = λ m v w i b c. calm-controlled m.device v c;
  finishes = λ m t p h f r b c. calm-held m.device.held (rested m.device) (landed (finished_one m (stored m.device t p h)) m) (λ _. calm-rested m.device f);
  wakes = λ m s b c y. absurd (false≢true y);
  opens = λ m a o r c. c;
  gives = λ m first at e l c. c;
  ends-whole = λ m o w c. calm-ended (delivering m) m.device refl c;
  ends-partial = λ m o w c. calm-ended m m.device refl c;
}

calm-after : (m : Machine) (es : List Event) → Calm m.device → Calm (after m es).device
calm-after m [] c = c
calm-after m (e ∷ es) c = calm-after (next m e) es (walk StaysCalm stays-calm m e c)

pub calm : (kind : Kind) (es : List Event) → (after (fresh kind) es).device.phase ≡ Standby → (after (fresh kind) es).device.copying ≡ false
calm kind es e = calm-after (fresh kind) es (λ y. absurd (false≢true y)) (ap stands_by e)
