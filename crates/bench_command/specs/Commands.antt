-- What a line asks: nothing where it is empty; a line of more than 4,096 bytes is too long; and then by its words.
use Rattle.std.specs.Prelude.{ℕ, false, cond, List, eqb, ltb, length}
use Rattle.bench_numbers.specs.declared.Reason.TheVariants.{TooLong}
use Rattle.bench_command.specs.declared.Asked.{Asked}
use Rattle.bench_command.specs.declared.Asked.TheVariants as asks
use Rattle.bench_command.specs.Words.{count}
use Rattle.bench_command.specs.Table.{commands, tried}

abbrev pub longest_line : ℕ
longest_line = 4096

-- with what is lent afterwards
unfoldable pub asked : List ℕ → List ℕ → Asked × List ℕ
asked line lent =
    cond (ltb longest_line (length line)) (asks.Refused TooLong, lent)
    (cond (eqb (length line) 0) (asks.Nothing, lent)
    (tried commands line (count line) false lent))
