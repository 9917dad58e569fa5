-- What the tests of lengths and codes say, both ways. Assumes nothing.
use Prim.Native.Nat.{ℕ}
use mathlib.Core.Path.{◌≡◌}
use mathlib.Core.Bool.{true, ◌&&◌}
use lib.Dec.{eqb}
use borrow.Author.Tests.{eqb-true, leb-true, eq-eqb, le-leb}
use Rattle.laws.specs.Tests.{both}
use Rattle.paper.specs.Registers as reg
use Rattle.kinds.specs.declared.Kind.{Kind}
use Rattle.kinds.specs.Chips.{facts}
use Rattle.compensation_kinds.specs.Kinds.{are_lengths}
use Rattle.compensation_kinds.specs.Both.{Lengths, Codes}

module _ (kind : Kind) (l m n : ℕ) where
  pub lengths-are : are_lengths kind l m n ≡ true → Lengths kind l m n
  lengths-are e =
      let a = both (eqb l (facts kind).one) (eqb m (facts kind).two && eqb n (facts kind).bytes) e in
      let b = both (eqb m (facts kind).two) (eqb n (facts kind).bytes) a.1 in
      record { one = eqb-true l (facts kind).one a.0; two = eqb-true m (facts kind).two b.0; bytes = eqb-true n (facts kind).bytes b.1 }

  pub are-lengths : Lengths kind l m n → are_lengths kind l m n ≡ true
  are-lengths k =
      rw (eq-eqb l (facts kind).one k.one, eq-eqb m (facts kind).two k.two, eq-eqb n (facts kind).bytes k.bytes)

module _ (t p h : ℕ) where
  pub codes-are : reg.are_codes t p h ≡ true → Codes t p h
  codes-are e =
      let a = both (reg.is_code t) (reg.is_code p && reg.is_code h) e in
      let b = both (reg.is_code p) (reg.is_code h) a.1 in
      record { temperature = leb-true t reg.last_code a.0; pressure = leb-true p reg.last_code b.0; humidity = leb-true h reg.last_code b.1 }

  pub are-codes : Codes t p h → reg.are_codes t p h ≡ true
  are-codes k = rw (le-leb t reg.last_code k.temperature, le-leb p reg.last_code k.pressure, le-leb h reg.last_code k.humidity)

-- with 0 for the third code they are codes too
pub codes-without : (t p h : ℕ) → reg.are_codes t p h ≡ true → reg.are_codes t p 0 ≡ true
codes-without t p h e =
    let k = codes-are t p h e in
    rw (le-leb t reg.last_code k.temperature, le-leb p reg.last_code k.pressure)
