-- Bus bytes handed to C: the paper's number, the places of the length and the address, and the lent bytes.
use Rattle.std.specs.Prelude.{ℕ, List}
use Rattle.paper.specs.Answers.{Answer}
use Rattle.onegrish_answers.specs.Handed.{last_or, before_last_or}

abbrev pub bytes_into : Answer × List ℕ → ℕ → ℕ × ℕ × List ℕ
bytes_into o old = (o.0.number, last_or old o.0.values, o.1)

abbrev pub pairs_into : Answer × List ℕ → ℕ → ℕ → ℕ × ℕ × ℕ × List ℕ
pairs_into o address old = (o.0.number, before_last_or address o.0.values, last_or old o.0.values, o.1)
