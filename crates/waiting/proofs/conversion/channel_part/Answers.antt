-- The code asks whether there are samples as the definition does, and no code has more than 16, so that the product fits.
use Prim.Native.Nat.{◌*◌, ◌≤◌}
use native.Mathlib.Omega.{arith}
use Rattle.laws.specs.Cases.{cases}
use Rattle.waiting.specs.Waiting.{channel_part}
use Rattle.waiting.proofs.Bounds.{most-product}
use Rattle.waiting.proofs.conversion.channel_part.Goals as goal
use Rattle.waiting.proofs.conversion.channel_part.Goals.{Else-n-eq0}

product : (c : Else-n-eq0) → c.samples-n.result * c.args.sample ≤ 160000
product c = most-product _ _ _ c.samples-n.ensures c.requires.2 c.requires.0

pub returns-then-n-eq0 : goal.returns-then-n-eq0
unfolding channel_part
returns-then-n-eq0 c = (rw (← c.samples-n.ensures) (search cases), omega arith)

pub returns : goal.returns
unfolding channel_part
returns c = (rw (← c.samples-n.ensures) (search cases), omega (arith, product c))
