-- One road after the other, as the definition goes: the first that is not taken ends it.
use mathlib.Core.Path.{sym}
use mir.Syntax.{w32}
use mir.Val.{SFits}
use mir.Facts.{to_z-of_z}
use Rattle.std.proofs.Common.{rules}
use Rattle.plain_reading.specs.Plain.{counts_plainly}
use Rattle.plain_reading.proofs.read_counts.Goals as goal

pub returns-in_err-heat : goal.returns-in_err-heat
unfolding counts_plainly
returns-in_err-heat c = rw (c.from_residual.ensures, sym c.temperature_plainly.ensures, c.in_err-heat.was)

pub returns-in_err-p : goal.returns-in_err-p
unfolding counts_plainly
returns-in_err-p c =
    let fine : SFits w32 c.in_ok-heat.heat.fine = search rules in
    let p = rw (to_z-of_z fine) at c.pressure_plainly.ensures in
    rw (c.from_residual-in_err-p.ensures, sym c.temperature_plainly.ensures, c.in_ok-heat.was, sym p, c.in_err-p.was)

pub returns-in_err-h : goal.returns-in_err-h
unfolding counts_plainly
returns-in_err-h c =
    let fine : SFits w32 c.in_ok-heat.heat.fine = search rules in
    let p = rw (to_z-of_z fine) at c.pressure_plainly.ensures in
    let h = rw (to_z-of_z fine) at c.humidity_plainly.ensures in
    rw (c.from_residual-in_err-h.ensures, sym c.temperature_plainly.ensures, c.in_ok-heat.was, sym p, c.in_ok-p.was, sym h, c.in_err-h.was)

pub returns : goal.returns
unfolding counts_plainly
returns c =
    let fine : SFits w32 c.in_ok-heat.heat.fine = search rules in
    let p = rw (to_z-of_z fine) at c.pressure_plainly.ensures in
    let h = rw (to_z-of_z fine) at c.humidity_plainly.ensures in
    rw (sym c.temperature_plainly.ensures, c.in_ok-heat.was, sym p, c.in_ok-p.was, sym h, c.in_ok-h.was)
