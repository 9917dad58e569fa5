-- The arguments of a line: its row is walked along it, and each capital of the row is an argument of that kind.
use Rattle.std.specs.Prelude.{ℕ, ◌+◌, min, Bool, false, cond, List, [], ◌∷◌, leb, ltb, replicate, set, Result, Ok, Err}
use Rattle.bench_numbers.specs.declared.Argument.{Argument}
use Rattle.bench_numbers.specs.declared.Reason.{Reason}
use Rattle.bench_numbers.specs.Reading.{argument}
use Rattle.bench_command.specs.declared.arguments.Progress.{Progress}
use Rattle.bench_command.specs.Words.{past}

-- an argument of a row is a capital
unfoldable pub is_argument : ℕ → Bool
is_argument character = cond (ltb character 65) false (leb character 90)

-- at most 16 arguments
abbrev pub most : ℕ
most = 16

unfoldable pub start : Progress
start = record { numbers = replicate most 0; count = 0; at = 0; place = 0 }

abbrev pub moved : ℕ → Progress → Progress
moved at w = record { numbers = w.numbers; count = w.count; at = at; place = w.place }

abbrev pub taken : Result Argument Reason → Progress → Result Progress Reason
taken (Err reason) w = Err reason
taken (Ok argument) w =
    Ok (record { numbers = set w.numbers w.count argument.number; count = min (w.count + 1) most; at = argument.end; place = argument.place })

-- with what is lent
abbrev pub taken_on : Result Argument Reason × List ℕ → Progress → Result Progress Reason × List ℕ
taken_on read w = (taken read.0 w, read.1)

abbrev pub stepped_as : ℕ → List ℕ → Result Progress Reason → List ℕ → Result Progress Reason × List ℕ
stepped_as character line (Err reason) lent = (Err reason, lent)
stepped_as character line (Ok w) lent =
    cond (is_argument character)
    (taken_on (argument character line w.at lent w.place) w)
    (Ok (moved (past line w.at) w), lent)

-- one character of the row further; once an argument is refused, nothing more is read
unfoldable pub stepped : ℕ → List ℕ → Result Progress Reason × List ℕ → Result Progress Reason × List ℕ
stepped character line w = stepped_as character line w.0 w.1

unfoldable pub walked : List ℕ → List ℕ → Result Progress Reason × List ℕ → Result Progress Reason × List ℕ
walked [] line w = w
walked (character ∷ row) line w = walked row line (stepped character line w)
