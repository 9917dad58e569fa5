use Rattle.std.proofs.Common.{refl}
use Rattle.visit.specs.Writer.{fine, wrong}
use Rattle.visit.proofs.OneAnswer.{passed_on}
use Rattle.visit_write.proofs.Sound.{not-zero}
use Rattle.visit_write.proofs.Cases.{by-checks}
use Rattle.visit_write.proofs.write.Goals as goal

pub returns-in_err-check-clause-out_after : goal.returns-in_err-check-clause-out_after
returns-in_err-check-clause-out_after c =
    rw (passed_on _ _ c.from_residual.ensures.1) (by-checks _ _ (wrong _ _) _ _ c.in_err-check.ensures refl)

pub returns-in_err-check-clause-tells : goal.returns-in_err-check-clause-tells
returns-in_err-check-clause-tells c = rw (passed_on _ _ c.from_residual.ensures.1) (not-zero _ _ _ c.in_err-check.ensures)

pub returns-clause-out_after : goal.returns-clause-out_after
returns-clause-out_after c = by-checks _ _ fine _ _ c.in_ok-check.ensures c.write_checked.ensures.out_after
