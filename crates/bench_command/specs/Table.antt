-- The commands, one in a row: its words, a capital for each argument, and what it asks by the arguments' numbers.
-- B stands for bytes, whose number is their length, C for a code, D for a decimal, L for a buffer's length, P for a pair.
-- S stands at the end of a row for any words, none too, and its number is the place where the words before them end.
use Rattle.std.specs.Prelude.{ℕ, ◌+◌, ◌-◌, ◌%◌, Bool, true, false, cond, ◌||◌, List, [], ◌∷◌, eqb, leb, length, get_or, map, Result, Ok, Err}
use Prim.Native.String.{String}
use Rattle.bench_page.specs.Page.{letters}
use Rattle.bench_numbers.specs.declared.Reason.{Reason}
use Rattle.bench_numbers.specs.declared.Reason.TheVariants.{UnknownWord, WrongNumberOfWords}
use Rattle.bus.specs.declared.Bus.TheVariants.{I2c, Spi}
use Rattle.bus.specs.declared.Device.TheVariants.{At, Selected}
use Rattle.kinds.specs.declared.Kind.{Kind}
use Rattle.kinds.specs.declared.Kind.TheVariants.{Bme280, Bmp280}
use Rattle.machine.specs.declared.Event.TheVariants as events
use Rattle.bench_command.specs.declared.Words.{Words}
use Rattle.bench_command.specs.declared.Sent.{Sent}
use Rattle.bench_command.specs.declared.Shown.{Shown}
use Rattle.bench_command.specs.declared.Shown.TheVariants.{Comp, Point, Cells, Rooms}
use Rattle.bench_command.specs.declared.Question.{Question}
use Rattle.bench_command.specs.declared.Question.TheVariants as the
use Rattle.bench_command.specs.declared.Asked.{Asked}
use Rattle.bench_command.specs.declared.Asked.TheVariants as asks
use Rattle.bench_command.specs.declared.commands.Command.{Command}
use Rattle.bench_command.specs.declared.commands.Command.TheVariants as code
use denote.Bor.{Bor}
use Rattle.bench_command.specs.declared.arguments.Progress.{Progress}
use Rattle.bench_command.specs.Words.{is_space, count}
use Rattle.bench_command.specs.Arguments.{is_argument, start, walked}

pub record Row : Type 0 where
  pub text : List ℕ
  pub make : List ℕ → Asked

abbrev pub row : String → (List ℕ → Asked) → Row
row text make = record { text = letters text; make = make }

abbrev pub question : String → (List ℕ → Question) → Row
question text make = row text (λ n. asks.Question (make n))

-- the number at a place; as a byte; as a count
infixl 60 ◌at◌
abbrev pub ◌at◌ : List ℕ → ℕ → ℕ
n at k = get_or n k 0

abbrev pub octet : List ℕ → ℕ → ℕ
octet n k = (n at k) % 256

abbrev pub long : List ℕ → ℕ → ℕ
long n k = (n at k) % 4294967296

-- the words of a reading, of which the first stands at a place; and of a reading or two
unfoldable pub words : List ℕ → ℕ → Words
words n k = record { one = n at k; two = n at (k + 1); raw = n at (k + 2); t = octet n (k + 3); p = octet n (k + 4); h = octet n (k + 5) }

unfoldable pub sent : List ℕ → Sent
sent n = record { first = words n 0; second = words n 6; temperature = long n 12; pressure = long n 13; humidity = long n 14 }

abbrev pub reading : Kind → Shown → List ℕ → Asked
reading kind shown n = asks.Question (the.Reading kind shown (sent n))

-- the fresh state of a kind of part; without a number, which is 0 then, after no conversions
abbrev pub fresh : Kind → List ℕ → Asked
fresh kind n = asks.Fresh kind (long n 0)

unfoldable pub commands : List Row
commands =
    row "fresh" (fresh Bme280)
    ∷ row "fresh bmp" (fresh Bmp280)
    ∷ row "fresh D" (fresh Bme280)
    ∷ row "fresh bmp D" (fresh Bmp280)
    ∷ row "power" (λ n. asks.Event events.Power)
    ∷ row "copied" (λ n. asks.Event events.Copied)
    ∷ row "write P P" (λ n. asks.Event (events.Write (octet n 0) (octet n 1)))
    ∷ row "finish D D D" (λ n. asks.Event (events.Finish (long n 0) (long n 1) (long n 2)))
    ∷ row "wake" (λ n. asks.Event events.Wake)
    ∷ row "open P" (λ n. asks.Event (events.Open (octet n 0)))
    ∷ row "byte" (λ n. asks.Event events.Byte)
    ∷ row "close L" (λ n. asks.Event (events.Close (n at 0)))
    ∷ row "ledger" (λ n. asks.Ledger)
    ∷ question "cal B B" (λ n. the.Cal (n at 0) (n at 1))
    ∷ question "wait max C C C" (λ n. the.WaitMaximum (octet n 0) (octet n 1) (octet n 2))
    ∷ question "wait typ C C C" (λ n. the.WaitTypical (octet n 0) (octet n 1) (octet n 2))
    ∷ question "poll D B" (λ n. the.Poll (n at 0) (n at 1))
    ∷ question "i2c write P B L" (λ n. the.BusWrite (At (octet n 0)) (n at 1) (n at 2))
    ∷ question "i2c decode B L" (λ n. the.BusDecode I2c (n at 0) (n at 1))
    ∷ question "i2c read P P L" (λ n. the.BusRead (At (octet n 0)) (octet n 1) (n at 2))
    ∷ question "spi write B L" (λ n. the.BusWrite Selected (n at 0) (n at 1))
    ∷ question "spi decode B L" (λ n. the.BusDecode Spi (n at 0) (n at 1))
    ∷ question "spi read P L" (λ n. the.BusRead Selected (octet n 0) (n at 1))
    ∷ question "visit read B L" (λ n. the.VisitRead (n at 0) (n at 1))
    ∷ question "day B B B L" (λ n. the.Day (n at 0) (n at 1) (n at 2) (n at 3))
    ∷ row "bmp B B B C C C" (reading Bmp280 Comp)
    ∷ row "visit write LS" (λ n. asks.VisitWrite (n at 0) (n at 1))
    ∷ row "comp B B B C C C" (reading Bme280 Comp)
    ∷ row "point B B B C C C" (reading Bme280 Point)
    ∷ row "cells B B B C C C" (reading Bme280 Cells)
    ∷ row "rooms B B B C C C B B B C C C D D D" (reading Bme280 Rooms)
    ∷ []

-- ---- a row beside a line

-- where the row has ended, the line has, or a word of it
abbrev pub ended : List ℕ → Bool
ended [] = true
ended (byte ∷ line) = is_space byte

-- a character of the row is the line's too; where the line has ended, a word of the row has
abbrev pub along : ℕ → List ℕ → (List ℕ → Bool) → Bool
along character [] more = is_space character
along character (byte ∷ line) more = cond (eqb character byte) (more line) false

-- the row's words, up to its arguments, are the line's first words, as far as the line goes
unfoldable pub fits : List ℕ → List ℕ → Bool
fits [] line = ended line
fits (character ∷ row) line = cond (is_argument character) true (along character line (fits row))

-- any words may follow those of a row that ends in an S
unfoldable pub is_open : List ℕ → Bool
is_open row = cond (eqb (length row) 0) false (eqb (get_or row (length row - 1) 0) 83)

-- and it has as many words, or more where the row is open
unfoldable pub is_of : List ℕ → List ℕ → ℕ → Bool
is_of row line words = cond (fits row line) (cond (is_open row) (leb (count row) words) (eqb (count row) words)) false

-- ---- the row that a line is of

abbrev pub made : (List ℕ → Asked) → Result Progress Reason → Asked
made make (Err reason) = asks.Refused reason
made make (Ok w) = make w.numbers

-- what a row asks with the arguments of a line, and what is lent with their bytes
unfoldable pub asked_by : (List ℕ → Asked) → List ℕ → List ℕ → List ℕ → Asked × List ℕ
asked_by make text line lent = (made make (walked text line (Ok start, lent)).0, (walked text line (Ok start, lent)).1)

-- a line of no row has a wrong number of words where its first words name a command, and an unknown word otherwise
abbrev pub refused : Bool → Asked
refused named = cond named (asks.Refused WrongNumberOfWords) (asks.Refused UnknownWord)

-- the first row that the line is of decides
unfoldable pub tried : List Row → List ℕ → ℕ → Bool → List ℕ → Asked × List ℕ
tried [] line words named lent = (refused named, lent)
tried (row ∷ rows) line words named lent =
    cond (is_of row.text line words) (asked_by row.make row.text line lent)
    (tried rows line words (named || fits row.text line) lent)

-- ---- the table in code: each row's text, and what its command asks

abbrev pub make_of : Command → List ℕ → Asked
make_of (code.Fresh kind) = fresh kind
make_of code.Power = λ n. asks.Event events.Power
make_of code.Copied = λ n. asks.Event events.Copied
make_of code.Write = λ n. asks.Event (events.Write (octet n 0) (octet n 1))
make_of code.Finish = λ n. asks.Event (events.Finish (long n 0) (long n 1) (long n 2))
make_of code.Wake = λ n. asks.Event events.Wake
make_of code.Open = λ n. asks.Event (events.Open (octet n 0))
make_of code.Byte = λ n. asks.Event events.Byte
make_of code.Close = λ n. asks.Event (events.Close (n at 0))
make_of code.Ledger = λ n. asks.Ledger
make_of code.Cal = λ n. asks.Question (the.Cal (n at 0) (n at 1))
make_of code.WaitMaximum = λ n. asks.Question (the.WaitMaximum (octet n 0) (octet n 1) (octet n 2))
make_of code.WaitTypical = λ n. asks.Question (the.WaitTypical (octet n 0) (octet n 1) (octet n 2))
make_of code.Poll = λ n. asks.Question (the.Poll (n at 0) (n at 1))
make_of code.I2cWrite = λ n. asks.Question (the.BusWrite (At (octet n 0)) (n at 1) (n at 2))
make_of code.I2cDecode = λ n. asks.Question (the.BusDecode I2c (n at 0) (n at 1))
make_of code.I2cRead = λ n. asks.Question (the.BusRead (At (octet n 0)) (octet n 1) (n at 2))
make_of code.SpiWrite = λ n. asks.Question (the.BusWrite Selected (n at 0) (n at 1))
make_of code.SpiDecode = λ n. asks.Question (the.BusDecode Spi (n at 0) (n at 1))
make_of code.SpiRead = λ n. asks.Question (the.BusRead Selected (octet n 0) (n at 1))
make_of code.VisitRead = λ n. asks.Question (the.VisitRead (n at 0) (n at 1))
make_of code.Day = λ n. asks.Question (the.Day (n at 0) (n at 1) (n at 2) (n at 3))
make_of code.VisitWrite = λ n. asks.VisitWrite (n at 0) (n at 1)
make_of (code.Reading kind shown) = reading kind shown

abbrev pub as_row : Bor (List ℕ) × Command → Row
as_row coded = record { text = coded.0.now; make = make_of coded.1 }

abbrev pub as_rows : List (Bor (List ℕ) × Command) → List Row
as_rows table = map as_row table
