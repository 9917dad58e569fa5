-- What a line is answered, and the machine afterwards: nothing for an empty line, and a newline after every answer.
use Rattle.std.specs.Prelude.{ℕ, List, replicate}
use Rattle.machine.specs.declared.Machine.{Machine}
use Rattle.machine.specs.Counts.{tallied}
use Rattle.bench_page.specs.declared.Page.{Page}
use Rattle.bench_page.specs.Page.{◌▹◌}
use Rattle.bench_command.specs.declared.Asked.{Asked}
use Rattle.bench_command.specs.declared.Asked.TheVariants as asks
use Rattle.bench_command.specs.Commands.{asked}
use Rattle.bench_phrases.specs.Phrases.{refused, ended}
use Rattle.bench_question.specs.Questions.{replied}
use Rattle.bench_visit.specs.Visits as visits
use Rattle.bench_machine.specs.Outcomes as outcomes

-- ---- what a line asks: each answer has its newline

abbrev pub asked_answered : Asked → List ℕ → List ℕ → Machine → Page → Machine × Page
asked_answered asks.Nothing line bytes m page = (m, page)
asked_answered (asks.Refused reason) line bytes m page = (m, refused reason page)
asked_answered (asks.Question question) line bytes m page = (m, ended (page ▹ replied question bytes))
asked_answered (asks.VisitWrite room from) line bytes m page = (m, visits.write line from room page)
asked_answered (asks.Fresh kind conversions) line bytes m page = outcomes.fresh kind conversions page
asked_answered (asks.Event event) line bytes m page = outcomes.event m event page
asked_answered asks.Ledger line bytes m page = (m, page ▹ outcomes.tally (tallied m) ▹ outcomes.newline)

-- ---- a line, read into zeros: two digits make a byte, so that it has at most 2,048

unfoldable pub zeros : List ℕ
zeros = replicate 2048 0

unfoldable pub answered : List ℕ → Machine → Page → Machine × Page
answered line m page = asked_answered (asked line zeros).0 line (asked line zeros).1 m page
