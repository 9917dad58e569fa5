-- What the open burst has given: the addresses from the one asked for up to the machine's next, so that the machine's test of a whole burst is the history's;
-- and each data byte is of the conversion that the burst shows.
use Prim.Native.Nat.{ℕ, zero, suc, ◌+◌, ◌-◌, ◌≤◌, ◌<◌}
use mathlib.Core.Path.{◌≡◌, refl, sym, ◌∙◌}
use mathlib.Core.Bool.{Bool, true, false, ◌&&◌, ◌||◌, false≢true}
use mathlib.Core.List.{List, [], ◌∷◌}
use native.Mathlib.Omega.{arith}
use lib.Dec.{eqb, leb, ltb}
use lib.ListN.{get_or, length, take}
use lib.Seq.{length-take-le}
use borrow.Author.Tests.{leb-true, ltb-true, le-leb, lt-ltb, le-ltb, ne_eqb, eqb-true, eqb-false}
use Rattle.std.specs.Prelude.{Option, None, Some}
use Rattle.paper.specs.Registers as reg
use Rattle.kinds.specs.declared.Kind.{Kind}
use Rattle.kinds.specs.Chips.{facts}
use Rattle.kinds.proofs.Figures.{figures}
use Rattle.machine.specs.declared.OpenBurst.{OpenBurst}
use Rattle.machine.specs.declared.Machine.{Machine}
use Rattle.machine.specs.State.{is_open}
use Rattle.machine.specs.Data.{register}
use Rattle.machine.specs.Events.{is_whole, byte_given, burst_at}
use Rattle.ledger.specs.Happening.{Happening, began, finished, lost, opened, gave, closed, changed}
use Rattle.ledger.specs.Bytes.{data_bytes}
use Rattle.ledger.specs.History.{opened_at, given_in, has_address, each_below, gave_data, whole_in, last_finished, before_opened, shown_by}
use Rattle.ledger.proofs.Tests.{same_test, both, and_left, and_right}

-- ---- addresses from i up to j

abbrev within : ℕ → ℕ → ℕ → Bool
within i j a = leb i a && ltb a j

within-from : (i j a : ℕ) → i ≤ a → a < j → within i j a ≡ true
within-from i j a l u = both (leb i a) (ltb a j) (le-leb i a l) (lt-ltb a j u)

within_low : (i j a : ℕ) → within i j a ≡ true → i ≤ a
within_low i j a e = leb-true i a (and_left (leb i a) (ltb a j) e)

within-high : (i j a : ℕ) → within i j a ≡ true → a < j
within-high i j a e = ltb-true a j (and_right (leb i a) (ltb a j) e)

-- a burst from i, next at j, was opened at f and gave l
pub record Spans (i j f : ℕ) (l : List (ℕ × ℕ)) : Type 0 where
  pub first-is : i ≡ f
  pub next-is : j ≡ f + length l
  pub given_is : (a : ℕ) → has_address a l ≡ within i j a

-- of a machine's burst
abbrev pub Spanned : Option OpenBurst → ℕ → List (ℕ × ℕ) → Type 0
Spanned None f l = Unit {0}
Spanned (Some b) f l = Spans b.first b.next f l

pub spans-opened : (a : ℕ) → Spans a a a []
spans-opened i = record { first-is = refl; next-is = omega arith; given_is = none }
  where
    none : (a : ℕ) → false ≡ within i i a
    none a = same_test false (within i i a) (λ e. absurd (false≢true e)) (λ e. absurd (omega (arith, within_low i i a e, within-high i i a e)))

pub spans-gave : (i j f v : ℕ) (l : List (ℕ × ℕ)) → Spans i j f l → Spans i (j + 1) f ((f + length l, v) ∷ l)
spans-gave i j f v l s = record {
  first-is = s.first-is;
  next-is = omega (arith, s.next-is);
  given_is = λ a. rw (← s.next-is, s.given_is a) (at a (eqb a j) refl);
}
  where
    ordered : i ≤ j
    ordered = omega (arith, s.first-is, s.next-is)

    at : (a : ℕ) (t : Bool) → eqb a j ≡ t → (eqb a j || within i j a) ≡ within i (j + 1) a
    at a true e = rw e (sym (within-from i (j + 1) a (omega (arith, eqb-true a j e, ordered)) (omega (arith, eqb-true a j e))))
    at a false e = rw e (same_test (within i j a) (within i (j + 1) a)
        (λ w. within-from i (j + 1) a (within_low i j a w) (omega (arith, within-high i j a w)))
        (λ w. let n = eqb-false a j e in within-from i j a (within_low i (j + 1) a w) (lt_of (within-high i (j + 1) a w) n)))
      where
        lt_of : a < j + 1 → (a ≡ j → ⊥) → a < j
        lt_of u n = omega arith

-- ---- all of the part's data bytes

each_from : (n : ℕ) (f : ℕ → Bool) → ((k : ℕ) → k < n → f k ≡ true) → each_below n f ≡ true
each_from zero f p = refl
each_from (suc n) f p = rw (p n (omega arith)) (each_from n f (λ k l. p k (omega arith)))

each_at : (n : ℕ) (f : ℕ → Bool) → each_below n f ≡ true → (k : ℕ) → k < n → f k ≡ true
each_at zero f e k l = absurd (omega arith)
each_at (suc n) f e k l = at (eqb k n) refl (each_at n f (and_right (f n) (each_below n f) e) k)
  where
    at : (t : Bool) → eqb k n ≡ t → (k < n → f k ≡ true) → f k ≡ true
    at true q i = rw (eqb-true k n q) (and_left (f n) (each_below n f) e)
    at false q i = let z = eqb-false k n q in i (omega arith)

-- the machine's test of a burst from i, next at j
spans-whole : {kind : Kind} (i j : ℕ) (h : List (Happening kind)) → Spans i j (opened_at h) (given_in h) → is_whole kind (burst_at i j) ≡ whole_in h
unfolding whole_in
spans-whole {kind} i j h s = same_test (is_whole kind (burst_at i j)) (each_below bytes (gave_data h)) all ends
  where
    bytes : ℕ
    bytes = (facts kind).bytes

    last : ℕ
    last = (facts kind).last

    ends_at : reg.first_data + bytes ≡ last + 1
    ends_at = (figures kind).ends_at

    some : 1 ≤ bytes
    some = (figures kind).some

    all : is_whole kind (burst_at i j) ≡ true → each_below bytes (gave_data h) ≡ true
    all e =
        let low = leb-true i reg.first_data (and_left (leb i reg.first_data) (ltb last j) e) in
        let high = ltb-true last j (and_right (leb i reg.first_data) (ltb last j) e) in
        each_from bytes (gave_data h) (λ k l. s.given_is (reg.first_data + k) ∙ within-from i j (reg.first_data + k) (omega arith) (omega (arith, ends_at)))

    ends : each_below bytes (gave_data h) ≡ true → is_whole kind (burst_at i j) ≡ true
    ends e =
        let low = within_low i j reg.first_data (sym (s.given_is reg.first_data) ∙ each_at bytes (gave_data h) e 0 some) in
        let at_last = each_at bytes (gave_data h) e (bytes - 1) (omega (arith, some)) in
        let high = within-high i j (reg.first_data + (bytes - 1)) (sym (s.given_is (reg.first_data + (bytes - 1))) ∙ at_last) in
        both (leb i reg.first_data) (ltb last j) (le-leb i reg.first_data low) (lt-ltb last j (omega (arith, ends_at, some, high)))

pub whole_is : {kind : Kind} (b : Option OpenBurst) (h : List (Happening kind)) → is_open b ≡ true → Spanned b (opened_at h) (given_in h) → is_whole kind b ≡ whole_in h
whole_is None h o s = absurd (false≢true o)
whole_is (Some b) h o s = spans-whole b.first b.next h s

-- ---- the bytes

pub register-data : (a : ℕ) (m : Machine) → reg.first_data ≤ a → a ≤ (facts m.device.kind).last → register a m ≡ get_or m.shown.bytes (a - reg.first_data) 0
register-data a m l u =
    rw (
      ne_eqb a reg.chip_id (λ e. omega arith),
      ne_eqb a reg.ctrl_hum (λ e. omega arith),
      ne_eqb a reg.status (λ e. omega arith),
      ne_eqb a reg.ctrl_meas (λ e. omega arith),
      ne_eqb a reg.config (λ e. omega arith),
      le-ltb a reg.first_data l,
      le-ltb (facts m.device.kind).last a u,
    )

pub gives-value : (m : Machine) (i j : ℕ) → m.burst ≡ burst_at i j → ltb reg.last_register j ≡ false → (byte_given m).value ≡ register j m
gives-value m i j e l = rw (e, l)

-- a conversion's bytes have eight places, of which the part's own are as many as it has
eight-places : {kind : Kind} (h : List (Happening kind)) → length (last_finished h).bytes ≡ reg.data_length
unfolding data_bytes
eight-places {kind} [] = (figures kind).places
eight-places (began ∷ h) = eight-places h
eight-places (finished x y z ∷ h) = refl
eight-places {kind} (lost ∷ h) = (figures kind).places
eight-places (opened a ∷ h) = eight-places h
eight-places (gave v ∷ h) = eight-places h
eight-places (closed ∷ h) = eight-places h
eight-places (changed x ∷ h) = eight-places h

pub as_many : {kind : Kind} (h : List (Happening kind)) → length (take (facts kind).bytes (shown_by h).bytes) ≡ (facts kind).bytes
as_many {kind} h = length-take-le (facts kind).bytes (shown_by h).bytes (omega (arith, (figures kind).at_most, eight-places (before_opened h)))
