-- A cycle more is one fewer still to ride.
use Rattle.std.proofs.Common.{◌≡◌, ℕ, suc, ◌+◌, ◌-◌, ◌<◌, List, ap, ◌∙◌, arith}
use Rattle.measure_cycles.specs.declared.forced.Ridden.{Ridden}
use Rattle.measure_cycles.specs.Cycles.{ridden, cycled}
use Rattle.measure_cycles.proofs.speed_cycles.Goals as goal

one_more : (f4 t p h n i : ℕ) (r next : Ridden) (lent after : List ℕ) → i < n → (next, after) ≡ ridden r.machine r.seen f4 t p h lent
    → cycled (n - (i + 1)) next.machine next.seen f4 t p h after ≡ cycled (n - i) r.machine r.seen f4 t p h lent
unfolding cycled
one_more f4 t p h n i r next lent after l e =
    let z : n - i ≡ suc (n - (i + 1)) = omega arith in
    rw z (ap (λ (q : Ridden × List ℕ). cycled (n - (i + 1)) q.0.machine q.0.seen f4 t p h q.1) e)

pub loop-preserved : goal.loop-preserved
loop-preserved c =
    let l = c.loop in
    let a = c.args in
    one_more a.f4 a.t a.p a.h a.n l.counter l.ridden c.ride-ridden.result l.lent c.ride-ridden.new.lent c.loop-test.true c.ride-ridden.ensures
    ∙ l.invariant
