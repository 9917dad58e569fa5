-- Long division as the definition goes.
use Rattle.std.proofs.Common.{◌≡◌, ◌<◌, ◌-◌}
use Rattle.bench_page.specs.Page.{◌▹◌}
use Rattle.visit_figures.specs.Figures.{decimals}
use Rattle.visit_figures.proofs.write_part.Given as goal

abbrev pub invariant-loop-done : goal.invariant-loop-done
invariant-loop-done l =
    (l.left < l.unit) × (l.page ▹ decimals (10 - l._done) l.left l.unit ≡ l.initial.page ▹ decimals 10 l.part l.unit)
