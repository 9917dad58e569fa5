-- `humidity::lines::last` meets its contract: what the clamp leaves is at most 419430400, so its shift fits 32 bits.
use Prim.Native.Nat.{ℕ, ◌/◌, ◌^◌, min}
use mathlib.Core.Path.{◌≡◌, sym, ap}
use native.Mathlib.Omega.{arith}
use lib.IntN.{ℤ, pos, negsuc}
use mir.Facts.{to_z-of_z}
use borrow.Author.Tests.{lt-ltb}
use Rattle.steps.specs.declared.Signed.TheVariants.{Bits32}
use Rattle.steps.specs.Step.{on_value}
use Rattle.steps.specs.Work.{run}
use Rattle.std.specs.Prelude.{Ok}
use Rattle.formula.specs.Answers.{answered}
use Rattle.formula_humidity.specs.Humidity.{clamped, last_line}
use Rattle.formula_humidity.proofs.lines.last.Goals as goal

shifted : (v : ℤ) (n : ℕ) → pos n ≡ clamped v → answered (run Bits32 (last_line v)) ≡ Ok (n / 4096)
unfolding run last_line on_value
shifted (pos m) n e =
    let h : n ≡ min m 419430400 = cc in
    rw (lt-ltb (min m 419430400 / 4096) (2 ^ 31) (omega arith)) (ap (λ (k : ℕ). Ok (k / 4096)) (sym h))
shifted (negsuc m) n e =
    let h : n ≡ 0 = cc in
    ap (λ (k : ℕ). Ok (k / 4096)) (sym h)

pub returns : goal.returns
returns c = shifted c.args.v c.clamp.result (rw (to_z-of_z c.ranges.v) at c.clamp.ensures)
