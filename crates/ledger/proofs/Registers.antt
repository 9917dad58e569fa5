-- The register at an address is the one that the history has there.
use Prim.Native.Nat.{ℕ, ◌+◌, ◌-◌, ◌*◌}
use mathlib.Core.Path.{◌≡◌, refl, ap, ◌∙◌}
use mathlib.Core.Bool.{Bool, true, false, cond, ◌&&◌}
use mathlib.Core.List.{List}
use lib.Dec.{leb, ltb}
use lib.ListN.{get_or}
use borrow.Author.Tests.{ltb-true, ltb-false, lt-leb, le-leb}
use Rattle.kinds.specs.declared.Kind.{Kind}
use Rattle.kinds.specs.Chips.{facts}
use Rattle.machine.specs.declared.Machine.{Machine}
use Rattle.machine.specs.State.{runs, is_open}
use Rattle.machine.specs.Data.{status, data_at, register}
use Rattle.ledger.specs.Happening.{Happening}
use Rattle.ledger.specs.History.{Measurement, shown_by, bit}
use Rattle.ledger.specs.Answers.{status_in, data_in, register_in}
use Rattle.ledger.proofs.Entries.{book}
use Rattle.ledger.proofs.Kept.{Kept, kind-is}
use Rattle.ledger.proofs.Numbers.{runs-in, copies}

-- two bits, of which one is eight
bits : (r c : Bool) → cond r 8 0 + cond c 1 0 ≡ 8 * bit r + bit c
bits true true = refl
bits true false = refl
bits false true = refl
bits false false = refl

-- the data bytes, between two limits
between : (last a x : ℕ) → cond (ltb a 0xF7) 0 (cond (ltb last a) 0 x) ≡ cond (leb 0xF7 a && leb a last) x 0
between last a x = at (ltb a 0xF7) refl (ltb last a) refl
  where
    at : (l : Bool) → ltb a 0xF7 ≡ l → (u : Bool) → ltb last a ≡ u → cond (ltb a 0xF7) 0 (cond (ltb last a) 0 x) ≡ cond (leb 0xF7 a && leb a last) x 0
    at true e u f = rw (e, lt-leb 0xF7 a (ltb-true a 0xF7 e))
    at false e true f = rw (e, f, le-leb 0xF7 a (ltb-false a 0xF7 e), lt-leb a last (ltb-true last a f))
    at false e false f = rw (e, f, le-leb 0xF7 a (ltb-false a 0xF7 e), le-leb a last (ltb-false last a f))

module _ {kind : Kind} (m : Machine) (h : List (Happening kind)) (k : Kept m h) where
  pub register-is : (a : ℕ) → is_open m.burst ≡ true → register a m ≡ register_in h a
  register-is a o =
      let shown-is : (book m).shown ≡ shown_by h = k.right.shown-is ∙ rw (← k.right.open_is, o) in
      let status-is : status m.device ≡ status_in h = bits (runs m.device.phase) m.device.copying ∙ rw (runs-in m h k, copies m h k) in
      let last = (facts kind).last in
      let data_is : data_at a m ≡ cond (leb 0xF7 a && leb a last) (data_in h a) 0 =
      rw (kind-is k) (between last a (get_or m.shown.bytes (a - 0xF7) 0) ∙ ap (λ (c : Measurement). cond (leb 0xF7 a && leb a last) (get_or c.bytes (a - 0xF7) 0) 0) shown-is) in
      rw (status-is, data_is, kind-is k, k.device-is)
