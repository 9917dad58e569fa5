-- The front up to the mark.
use Rattle.bench_step.proofs.Fronts.{taken, place-is}
use Rattle.bench_step.proofs.up_to.Goals as goal

pub returns : goal.returns
returns c =
    let f = c.find-end.ensures in
    rw (c.front.ensures, place-is _ _ _ f.within f.before f.found) (taken _ _)
