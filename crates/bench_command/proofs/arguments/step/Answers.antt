-- An argument read or refused, and any other character passed over.
use Rattle.std.proofs.Common.{refl}
use Rattle.std.proofs.lemmas.Result.{err_from_is_err_and}
use Rattle.laws.specs.Cases.{called-yes, called-no}
use Rattle.bench_command.specs.Arguments.{stepped}
use Rattle.bench_command.proofs.arguments.step.Goals as goal

pub returns-in_err-argument : goal.returns-in_err-argument
unfolding stepped
returns-in_err-argument c =
    let p = err_from_is_err_and c.from_residual.result c.from_residual.ensures.1 in
    rw (p.1, p.2) (called-yes _ _ _ _ _ c.if-is_argument.true c.is_argument.ensures (rw (← c.in_err-argument.ensures)))

pub returns-then-is_argument : goal.returns-then-is_argument
unfolding stepped
returns-then-is_argument c =
    called-yes _ _ _ _ _ c.if-is_argument.true c.is_argument.ensures (rw (← c.in_ok-argument.ensures, c.taken.ensures))

pub returns : goal.returns
unfolding stepped
returns c = rw c.past.ensures (called-no _ _ _ _ _ c.if-is_argument.false c.is_argument.ensures refl)
