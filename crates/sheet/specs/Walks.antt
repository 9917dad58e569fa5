-- What close answers after the walks of K12 and K13, and the ledger then.
use Rattle.std.specs.Prelude.{List, ◌++◌, ℤ}
use Rattle.machine.specs.declared.Machine.{Machine}
use Rattle.machine.specs.declared.Outcome.{Outcome}
use Rattle.machine.specs.Bench.{lent}
use Rattle.machine.specs.Events.{closed}
use Rattle.sheet.specs.Figures.{of_closing, of_ledger}

abbrev pub closing : Machine → Outcome
closing m = (closed m lent).0

abbrev pub after_close : Machine → List ℤ
after_close m = of_closing (closing m) ++ of_ledger (closing m).machine.ledger
