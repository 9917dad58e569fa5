-- The number that an event hands back is the one that the checks give after the history.
use Prim.Native.Nat.{ℕ}
use mathlib.Core.Path.{◌≡◌, refl, sym, ap, ◌∙◌}
use mathlib.Core.Bool.{Bool, true, false, not, ◌&&◌, ◌||◌, and_comm}
use mathlib.Core.List.{List}
use native.Mathlib.Omega.{arith}
use lib.Dec.{eqb, leb}
use borrow.Author.Tests.{leb-true, le-leb, eqb-true, eq-eqb}
use Rattle.std.specs.Prelude.{Option, None, Some}
use Rattle.paper.specs.Registers as reg
use Rattle.kinds.specs.declared.Kind.{Kind}
use Rattle.kinds.specs.Chips.{facts, is_writable}
use Rattle.machine.specs.declared.Device.{Device}
use Rattle.machine.specs.declared.Machine.{Machine}
use Rattle.machine.specs.declared.Outcome.{Outcome}
use Rattle.machine.specs.declared.Event.{Event}
use Rattle.machine.specs.State.{runs, sleeps, stands_by, is_held, is_open}
use Rattle.machine.specs.Counts.{is_barred}
use Rattle.machine.specs.Control as control
use Rattle.machine.specs.Events.{may_write, may_finish, held_will_begin, burst_at}
use Rattle.machine.specs.Event.{answer}
use Rattle.machine.proofs.Walk
use Rattle.machine.proofs.Walk.{Steps, Refuses, MayControl, walk}
use Rattle.ledger.specs.Happening.{Happening}
use Rattle.ledger.specs.Device.{is_sleep, is_converting, is_standby, begins_by, finishes, device_in}
use Rattle.ledger.specs.History.{begun_in, open_in, opened_at, given_in}
use Rattle.ledger.specs.Answers.{holds, held_begins, all_begun_in, may_write_in, may_finish_in, address_in, number_in}
use Rattle.ledger.proofs.Tests.{same_test}
use Rattle.ledger.proofs.Given.{Spans}
use Rattle.ledger.proofs.Control.{runs-is, sleeps-is, stands-is, begins-is, held-begins-is, rested-phase, finished-idle}
use Rattle.ledger.proofs.Kept.{Kept, tested}

holds-is : (q : Option ℕ) → is_held q ≡ holds q
holds-is None = refl
holds-is (Some v) = refl

-- the test of a write, of the machine and of the history, by copying c and running r
writes_as : (c r : Bool) → not c || r ≡ not (c && not r)
writes_as true true = refl
writes_as true false = refl
writes_as false r = refl

module _ {kind : Kind} (m : Machine) (h : List (Happening kind)) (k : Kept m h) where
  opens : is_open m.burst ≡ open_in h
  opens = k.right.open_is

  all-lent : eqb (facts m.device.kind).bytes (facts kind).bytes ≡ true
  all-lent = let n = (facts m.device.kind).bytes in tested (λ x. eqb n (facts x).bytes) k (eq-eqb n n refl)

  pub copies : m.device.copying ≡ (device_in h).copying
  copies = ap (λ (d : Device). d.copying) k.device-is

  pub runs-in : runs m.device.phase ≡ is_converting (device_in h).phase
  runs-in = runs-is m.device.phase ∙ ap (λ (d : Device). is_converting d.phase) k.device-is

  sleeps-in : sleeps m.device.phase ≡ is_sleep (device_in h).phase
  sleeps-in = sleeps-is m.device.phase ∙ ap (λ (d : Device). is_sleep d.phase) k.device-is

  stands-in : stands_by m.device.phase ≡ is_standby (device_in h).phase
  stands-in = stands-is m.device.phase ∙ ap (λ (d : Device). is_standby d.phase) k.device-is

  holds-in : is_held m.device.held ≡ holds (device_in h).held
  holds-in = holds-is m.device.held ∙ ap (λ (d : Device). holds d.held) k.device-is

  -- no more have begun than can
  all-begun : leb reg.most_begun m.ledger.begun ≡ all_begun_in h
  all-begun =
      let small = k.tidy.small in
      let same = k.right.begun-is in
      same_test (leb reg.most_begun m.ledger.begun) (all_begun_in h)
      (λ e. eq-eqb (begun_in h) reg.most_begun (omega (arith, leb-true reg.most_begun m.ledger.begun e)))
      (λ e. le-leb reg.most_begun m.ledger.begun (omega (arith, eqb-true (begun_in h) reg.most_begun e)))

  barred-by : (v : ℕ) → runs m.device.phase ≡ false → is_barred (control.begins m.device.phase v) m.ledger ≡ begins_by (device_in h).phase v && all_begun_in h
  barred-by v i = rw (begins-is m.device v i, all-begun, k.device-is)

  barred-held : is_barred (held_will_begin m.device) m.ledger ≡ held_begins (device_in h).held (finishes (device_in h)).phase && all_begun_in h
  barred-held = rw (rested-phase m.device, held-begins-is m.device.held (finishes m.device).phase (finished-idle m.device), all-begun, k.device-is)

  pub address_is : (i j : ℕ) → m.burst ≡ burst_at i j → j ≡ address_in h
  address_is i j e = let s : Spans i j (opened_at h) (given_in h) = rw e at k.spanned in s.next-is

  may-write : may_write m.device ≡ may_write_in h
  may-write = writes_as m.device.copying (runs m.device.phase) ∙ rw (copies, runs-in)

  may-finish : may_finish m.device ≡ may_finish_in h
  may-finish = and_comm (not m.device.copying) (runs m.device.phase) ∙ rw (copies, runs-in)

  may-control : MayControl m → may_write_in h ≡ true
  may-control c = sym may-write ∙ c.may-write

  closed_in : MayControl m → open_in h ≡ false
  closed_in c = sym opens ∙ c.none_open

  pub refusal : (e : Event) (n : ℕ) → Refuses m e n → n ≡ number_in h e
  refusal e n (Walk.not-copying c) = rw (← copies, c)
  refusal e n (Walk.write-in-burst a v o) = rw (← opens, o)
  refusal e n (Walk.write-elsewhere a v o w) = rw (← opens, o, tested (λ x. is_writable x a) k w)
  refusal e n (Walk.reset-otherwise v o q) = rw (← opens, o, q)
  refusal e n (Walk.write-copying a v o w r c) = rw (← opens, o, tested (λ x. is_writable x a) k w, r, ← may-write, c)
  refusal e n (Walk.f5-awake v c s) = rw (closed_in c, may-control c, ← sleeps-in, s)
  refusal e n (Walk.f4-held v c u q) = rw (closed_in c, may-control c, ← runs-in, u, ← holds-in, q)
  refusal e n (Walk.f4-barred v c i b) = rw (closed_in c, may-control c, ← runs-in, i, ← barred-by v i, b)
  refusal e n (Walk.finish-early x y z u) = rw (← may-finish, u)
  refusal e n (Walk.finish-too-large x y z u r) = rw (← may-finish, u, r)
  refusal e n (Walk.finish-barred x y z u r b) = rw (← may-finish, u, r, ← barred-held, b)
  refusal e n (Walk.wake-elsewhere y) = rw (← stands-in, y)
  refusal e n (Walk.wake-barred y b) = rw (← stands-in, y, ← all-begun, b)
  refusal e n (Walk.open-in-burst a o) = rw (← opens, o)
  refusal e n (Walk.open-elsewhere a o r) = rw (← opens, o, r)
  refusal e n (Walk.byte-without-burst o) = rw (← opens, o)
  refusal e n (Walk.byte-past-last i j b l) = rw (← opens, b, ← address_is i j b, l)
  refusal e n (Walk.close-without-burst c o) = rw (← opens, o)
  refusal e n (Walk.close-wrong-length c o l) = rw (← opens, o, tested (λ x. eqb c (facts x).bytes) k l)

abbrev Numbered : Kind → Machine → Event → Outcome → Type 0
Numbered kind m e o = (h : List (Happening kind)) → Kept m h → o.answer ≡ number_in h e

pub numbered : (kind : Kind) → Steps (Numbered kind)
numbered kind = record {
  refuses = λ m e n r h k. refusal m h k e n r;
  powers = λ m h k. refl;
  copies = λ m c h k. rw (← copies m h k, c);
  resets = λ m o h k. rw (← opens m h k, o);
  writes-f2 = λ m v c f h k. rw (closed_in m h k c, tested (λ x. (facts x).humidity) k f, may-control m h k c);
  writes-f5 = λ m v c s h k. rw (closed_in m h k c, may-control m h k c, ← sleeps-in m h k, s);
  holds-f4 = λ m v c u q h k. rw (closed_in m h k c, may-control m h k c, ← runs-in m h k, u, ← holds-in m h k, q);
  takes-f4 = λ m v c i b h k. rw (closed_in m h k c, may-control m h k c, ← runs-in m h k, i, ← barred-by m h k v i, b);
  finishes = λ m x y z u r b h k. rw (← may-finish m h k, u, r, ← barred-held m h k, b);
  wakes = λ m y b h k. rw (← stands-in m h k, y, ← all-begun m h k, b);
  opens = λ m a o r h k. rw (← opens m h k, o, r);
  gives = λ m i j e l h k. rw (← opens m h k, e, ← address_is m h k i j e, l);
  ends-whole = λ m o w h k. rw (← opens m h k, o, all-lent m h k);
  ends-partial = λ m o w h k. rw (← opens m h k, o, all-lent m h k);
}

pub number_is : {kind : Kind} (m : Machine) (h : List (Happening kind)) → Kept m h → (e : Event) → answer m e ≡ number_in h e
number_is {kind} m h k e = walk (Numbered kind) (numbered kind) m e h k
