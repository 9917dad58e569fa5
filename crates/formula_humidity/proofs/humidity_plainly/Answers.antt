-- `humidity::humidity_plainly` meets its contract: the guard decides, and then the plain road does.
use mathlib.Core.Path.{sym, ◌∙◌}
use mir.Facts.{to_z-of_z}
use Rattle.formula.specs.Plain.{channel_plainly}
use Rattle.formula_humidity.proofs.Ranges.{plain-is}
use Rattle.formula_humidity.proofs.humidity_plainly.Goals as goal

pub humidity-requires : goal.humidity-requires
humidity-requires c = plain-is _ _ _ (sym c.is_plain.ensures ∙ c.if-is_plain.true)

pub returns : goal.returns
unfolding channel_plainly
returns c =
    let f = to_z-of_z c.ranges.fine in
    rw (rw f at (sym c.is_plain.ensures ∙ c.if-is_plain.false))
