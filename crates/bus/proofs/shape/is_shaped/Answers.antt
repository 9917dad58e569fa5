-- The code asks in the order of the definition.
use mathlib.Core.Path.{sym, ◌∙◌}
use borrow.Author.Tests.{le-leb, lt-leb, eq-eqb, ne_eqb}
use Rattle.std.proofs.Common.{rules}
use Rattle.bus.specs.RegisterByte.{is_carried}
use Rattle.bus.specs.Writing.{is_shaped}
use Rattle.bus.proofs.shape.is_shaped.Goals as goal

pub returns-then-bytes-lt1 : goal.returns-then-bytes-lt1
unfolding is_shaped
returns-then-bytes-lt1 c = rw (lt-leb 1 _ c.if-bytes-lt1.true)

pub returns-then-not-is_led : goal.returns-then-not-is_led
unfolding is_shaped
returns-then-not-is_led c =
    rw (le-leb 1 _ c.if-bytes-lt1.false, sym c.is_led.ensures ∙ c.if-not-is_led.true)

pub returns-then-pairs-ne0 : goal.returns-then-pairs-ne0
unfolding is_shaped
returns-then-pairs-ne0 c =
    let some = le-leb 1 _ c.if-bytes-lt1.false in
    rw (some, sym c.is_led.ensures ∙ c.if-not-is_led.false, ← c.body-pairs.ensures, ne_eqb _ 0 c.if-pairs-ne0.true)

pub returns : goal.returns
unfolding is_shaped
returns c =
    let some = le-leb 1 _ c.if-bytes-lt1.false in
    rw (some, sym c.is_led.ensures ∙ c.if-not-is_led.false, ← c.body-pairs.ensures, eq-eqb _ 0 c.if-pairs-ne0.false)
    (c.every.ensures (is_carried c.args.bus) (λ byte answer h p. search rules))
