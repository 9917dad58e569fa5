-- The library's capitals are those of the definition.
use Rattle.std.proofs.Common.{arith}
use Rattle.std.proofs.lemmas.Bool.Decides.{nat_tests}
use Rattle.bench_command.specs.Arguments.{is_argument}
use Rattle.bench_command.proofs.rows.is_argument.Goals as goal

pub returns : goal.returns
unfolding is_argument
returns c = grind (arith, nat_tests, c.is_ascii_uppercase.ensures.value)
