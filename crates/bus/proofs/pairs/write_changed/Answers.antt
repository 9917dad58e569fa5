-- Each turn writes one pair more.
use native.Mathlib.Omega.{arith}
use Prim.Native.Nat.{◌+◌, ◌*◌}
use mathlib.Core.Path.{◌≡◌}
use Rattle.bus.proofs.FlatPairs.{changing-more, changing-done}
use Rattle.bus.proofs.pairs.write_changed.Goals as goal

pub loop-k-preserved : goal.loop-k-preserved
loop-k-preserved c =
    let next : 2 * (c.loop-k.k + 1) ≡ 2 * c.loop-k.k + 2 = omega arith in
    rw next (changing-more _ _ _ _ _ c.loop-k.invariant _ c.changed.ensures (omega arith))

pub returns : goal.returns
returns c = changing-done _ _ _ _ _ c.loop-k.invariant (omega arith)
