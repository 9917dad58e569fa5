-- The loop keeps that the steps still to come, written on the page as it is, make the page that all make.
use Rattle.std.proofs.Common.{◌-◌, ◌≡◌}
use Rattle.bench_page.specs.Page.{◌▹◌}
use Rattle.bench_visit.specs.Shown.{steps}
use Rattle.bench_visit.proofs.steps.write.Given as goal

abbrev pub invariant-loop-k : goal.invariant-loop-k
invariant-loop-k l = l.page ▹ steps (l.n - l.k) l.k l.list ≡ l.initial.page ▹ steps l.n 0 l.list
