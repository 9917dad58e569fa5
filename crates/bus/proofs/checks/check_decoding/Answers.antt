-- The code checks in the order of the definition, and as many bytes are written as there are of pairs.
use mathlib.Core.Path.{sym, ◌∙◌, ap}
use Rattle.bus.specs.Lent.{checked}
use Rattle.bus.specs.Writing.{decode_number}
use Rattle.bus.proofs.Shapes.{shaped-nonempty, decode-number}
use Rattle.bus.proofs.checks.check_decoding.Goals as goal

pub returns-then-not-is_shaped : goal.returns-then-not-is_shaped
unfolding decode_number
returns-then-not-is_shaped c = rw (c.refused.ensures, sym c.is_shaped.ensures ∙ c.if-not-is_shaped.true)

pub body-pairs-requires : goal.body-pairs-requires
body-pairs-requires c = shaped-nonempty _ _ (sym c.is_shaped.ensures ∙ c.if-not-is_shaped.false)

pub returns : goal.returns
returns c =
    c.check_pairs.ensures
    ∙ ap checked (decode-number _ _ _ (sym c.is_shaped.ensures ∙ c.if-not-is_shaped.false) c.body-pairs.ensures c.receiving.ensures)
