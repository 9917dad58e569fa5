-- Each register is asked at its place, and one that fails is among them.
use Rattle.std.proofs.lemmas.Grind.{common_steps}
use native.Mathlib.Omega.{arith}
use Rattle.bus.proofs.Registers.{every-decides}
use Rattle.bus.proofs.pairs.every.Goals as goal

pub returns : goal.returns
returns g c asked h =
    every-decides asked c.args.pairs.now c.all.result (λ e k b. grind (arith, common_steps))
    (λ e.
    let (p, from, answered) = c.all.ensures.runs in
    let (k, below, fails) = (rw e at answered) (λ a r f m. grind (arith, common_steps)) in
    (k, grind (arith, common_steps, fails), grind (arith, common_steps, fails)))
