-- A close and a stray step have no line.
use Rattle.std.proofs.lemmas.Grind.{common_steps}
use Rattle.std.proofs.Common.{arith}
use Rattle.bench_page.specs.Page.{written}
use Rattle.visit_text.specs.Text.{lines}
use Rattle.visit_text.proofs.write_step.Goals as goal

pub returns-in-Close : goal.returns-in-Close
unfolding lines written
returns-in-Close c = grind (arith, common_steps)
