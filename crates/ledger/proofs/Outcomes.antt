-- What an event hands back besides its number is what the history says.
use Prim.Native.Nat.{ℕ}
use mathlib.Core.Path.{◌≡◌, refl, sym, ap, ◌∙◌, subst}
use mathlib.Core.Bool.{true, false, cond, ◌&&◌, false≢true, true≢false}
use mathlib.Core.List.{List}
use lib.Dec.{eqb}
use Rattle.paper.specs.Numbers.{done}
use Rattle.kinds.specs.declared.Kind.{Kind}
use Rattle.kinds.specs.Chips.{facts}
use Rattle.machine.specs.declared.Machine.{Machine}
use Rattle.machine.specs.declared.Outcome.{Outcome}
use Rattle.machine.specs.declared.Event.{Event}
use Rattle.machine.specs.declared.Event.TheVariants.{Power, Copied, Write, Finish, Wake, Open, Byte, Close}
use Rattle.machine.specs.State.{is_open}
use Rattle.machine.specs.Events.{answered, burst_at}
use Rattle.machine.specs.Event.{stepped}
use Rattle.machine.proofs.Walk.{Steps, refuses-not-done, walk}
use Rattle.ledger.specs.Happening.{Happening}
use Rattle.ledger.specs.History.{Measurement, whole_in, shown_by}
use Rattle.ledger.specs.Answers.{address_in, register_in, number_in, value_in, whole_by}
use Rattle.ledger.specs.Statements.{OutcomeIsTrue}
use Rattle.ledger.proofs.Entries.{book}
use Rattle.ledger.proofs.Kept.{Kept, whole_in_lem}
use Rattle.ledger.proofs.Numbers.{address_is, refusal, numbered}
use Rattle.ledger.proofs.Registers.{register-is}

-- ---- a number and nothing else

plain : {kind : Kind} (n : ℕ) (l : Machine) (h : List (Happening kind)) (e : Event) → value_in h e ≡ 0 → whole_by h e ≡ false → OutcomeIsTrue (answered n l) h e
plain n l h e v w = record {
  value-is = sym v;
  whole_is = sym w;
  whole_has = λ z. absurd (false≢true z);
  else-has = λ _. record { number_is = refl; codes-are = refl; before-is = refl; bytes-are = refl };
}

refused-value : {kind : Kind} (h : List (Happening kind)) (e : Event) → eqb (number_in h e) done ≡ false → value_in h e ≡ 0
refused-value h Power z = refl
refused-value h Copied z = refl
refused-value h (Write a v) z = refl
refused-value h (Finish t p u) z = refl
refused-value h Wake z = refl
refused-value h (Open a) z = refl
refused-value h Byte z = rw z
refused-value h (Close n) z = refl

refused-whole : {kind : Kind} (h : List (Happening kind)) (e : Event) → eqb (number_in h e) done ≡ false → whole_by h e ≡ false
refused-whole h Power z = refl
refused-whole h Copied z = refl
refused-whole h (Write a v) z = refl
refused-whole h (Finish t p u) z = refl
refused-whole h Wake z = refl
refused-whole h (Open a) z = refl
refused-whole h Byte z = refl
refused-whole h (Close n) z = rw z

-- ---- every event

abbrev Owed : Kind → Machine → Event → Outcome → Type 0
Owed kind m e o = (h : List (Happening kind)) → Kept m h → OutcomeIsTrue o h e

module _ {kind : Kind} (m : Machine) (h : List (Happening kind)) (k : Kept m h) where
  shown-is : is_open m.burst ≡ true → (book m).shown ≡ shown_by h
  shown-is o = k.right.shown-is ∙ rw (← k.right.open_is, o)

  given_is : (i j : ℕ) → m.burst ≡ burst_at i j → done ≡ number_in h Byte
      → register_in h j ≡ cond (eqb (number_in h Byte) done) (register_in h (address_in h)) 0
  given_is i j e n =
      ap (register_in h) (address_is m h k i j e)
      ∙ subst (λ (n : ℕ). register_in h (address_in h) ≡ cond (eqb n done) (register_in h (address_in h)) 0) n refl

  closed_is : (b : ℕ) → done ≡ number_in h (Close b) → whole_in h ≡ eqb (number_in h (Close b)) done && whole_in h
  closed_is b n = subst (λ (n : ℕ). whole_in h ≡ eqb n done && whole_in h) n refl

owed : (kind : Kind) → Steps (Owed kind)
owed kind = record {
  refuses = λ m e n r h k. let z : eqb (number_in h e) done ≡ false = subst (λ (n : ℕ). eqb n done ≡ false) (refusal m h k e n r) (refuses-not-done r) in
      plain n m h e (refused-value h e z) (refused-whole h e z);
  powers = λ m h k. plain done _ h Power refl refl;
  copies = λ m c h k. plain done _ h Copied refl refl;
  resets = λ m o h k. plain done _ h (Write 0xE0 0xB6) refl refl;
  writes-f2 = λ m v c f h k. plain done _ h (Write 0xF2 v) refl refl;
  writes-f5 = λ m v c s h k. plain done _ h (Write 0xF5 v) refl refl;
  holds-f4 = λ m v c u q h k. plain done _ h (Write 0xF4 v) refl refl;
  takes-f4 = λ m v c i b h k. plain done _ h (Write 0xF4 v) refl refl;
  finishes = λ m x y z u r b h k. plain done _ h (Finish x y z) refl refl;
  wakes = λ m y b h k. plain done _ h Wake refl refl;
  opens = λ m a o r h k. plain done _ h (Open a) refl refl;
  gives = λ m i j e l h k. record {
    value-is = register-is m h k j (rw e) ∙ given_is m h k i j e ((numbered kind).gives m i j e l h k);
    whole_is = refl;
    whole_has = λ z. absurd (false≢true z);
    else-has = λ _. record { number_is = refl; codes-are = refl; before-is = refl; bytes-are = refl };
  };
  ends-whole = λ m o w h k. record {
    value-is = refl;
    whole_is = sym w ∙ whole_in_lem k o ∙ closed_is m h k _ ((numbered kind).ends-whole m o w h k);
    whole_has = λ _. ap (λ (c : Measurement). c.bytes) (shown-is m h k o);
    else-has = λ z. absurd (true≢false z);
  };
  ends-partial = λ m o w h k. plain done _ h (Close (facts m.device.kind).bytes) refl
      (sym (whole_in_lem k o ∙ closed_is m h k _ ((numbered kind).ends-partial m o w h k)) ∙ w);
}

pub outcome-is : {kind : Kind} (m : Machine) (h : List (Happening kind)) → Kept m h → (e : Event) → OutcomeIsTrue (stepped m e) h e
outcome-is {kind} m h k e = walk (Owed kind) (owed kind) m e h k
