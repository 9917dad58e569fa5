-- A close that is whole was lent as many bytes as the part has, and so the first of them that fill the buffer are what it writes; any other leaves the buffer.
use Prim.Native.Nat.{ℕ}
use mathlib.Core.Path.{◌≡◌, refl, ap}
use mathlib.Core.Bool.{not}
use lib.Dec.{eqb}
use lib.ListN.{take}
use borrow.Author.Tests.{not-false, eqb-true}
use Rattle.laws.specs.Choices.{pick}
use Rattle.kinds.specs.Chips.{facts}
use Rattle.machine.specs.declared.Outcome.{Outcome}
use Rattle.machine.specs.State.{is_open}
use Rattle.machine.specs.Events.{is_whole, written_to}
use Rattle.bench_lent.specs.Lent.{lent_of}
use Rattle.bench_outcome.specs.Outcomes.{left}
use Rattle.bench_machine.specs.Outcomes.{said, LeftIsTrue}

pub left-is-true : LeftIsTrue
left-is-true m n =
    let own = (facts m.device.kind).bytes in
    let Is : Outcome → Type 0 = λ o. left (said o) n ≡ written_to m.device.kind o (lent_of n) in
    pick Is (not (is_open m.burst)) (λ _. refl) λ _.
    pick Is (not (eqb n own)) (λ _. refl) λ e.
    pick Is (is_whole m.device.kind m.burst) (λ _. ap (λ (k : ℕ). take k m.shown.bytes) (eqb-true n own (not-false (eqb n own) e))) (λ _. refl)
