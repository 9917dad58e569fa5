-- Lines read, by the definitions: each kind of command, each reason, and that the words decide in their order.
use Rattle.std.specs.Prelude.{ℕ, [], ◌∷◌, ◌≡◌, refl}
use Rattle.bench_page.specs.Page.{letters}
use Rattle.bench_numbers.specs.declared.Reason.TheVariants.{UnknownWord, WrongNumberOfWords, NotANumber, OddHex, TooLong}
use Rattle.bench_numbers.specs.Words.{word}
use Rattle.bench_numbers.specs.Reading as reading
use Rattle.bus.specs.declared.Bus.TheVariants.{I2c, Spi}
use Rattle.bus.specs.declared.Device.TheVariants.{At, Selected}
use Rattle.kinds.specs.declared.Kind.TheVariants.{Bme280, Bmp280}
use Rattle.machine.specs.declared.Event.TheVariants as events
use Rattle.bench_command.specs.declared.Asked.TheVariants.{Nothing, Refused, Question, VisitWrite, Fresh, Event, Ledger}
use Rattle.bench_command.specs.declared.Sent.{Sent}
use Rattle.bench_command.specs.declared.Shown.TheVariants.{Comp, Point, Cells, Rooms}
use Rattle.bench_command.specs.declared.Question.TheVariants as the
use Rattle.bench_command.specs.Words as words
use Rattle.bench_command.specs.Arguments as arguments
use Rattle.bench_command.specs.Table as table
use Rattle.bench_command.specs.Commands.{asked}

abbrev two-readings : ℕ → ℕ → ℕ → ℕ → ℕ → ℕ → ℕ → ℕ → ℕ → ℕ → ℕ → ℕ → ℕ → ℕ → ℕ → Sent
two-readings one two raw t p h one' two' raw' t' p' h' temperature pressure humidity = record {
  first = record { one = one; two = two; raw = raw; t = t; p = p; h = h };
  second = record { one = one'; two = two'; raw = raw'; t = t'; p = p'; h = h' };
  temperature = temperature;
  pressure = pressure;
  humidity = humidity;
}

abbrev one-reading : ℕ → ℕ → ℕ → ℕ → ℕ → ℕ → Sent
one-reading one two raw t p h = two-readings one two raw t p h 0 0 0 0 0 0 0 0 0

-- four bytes are lent, and nothing is written after the last byte read
pub record Lines : Type 0 where
  pub cal : asked (letters "cal 0102 03") (9 ∷ 9 ∷ 9 ∷ 9 ∷ []) ≡ (Question (the.Cal 2 1), 1 ∷ 2 ∷ 3 ∷ 9 ∷ [])
  pub comp : asked (letters "comp 01 - 02 1 7 256") (9 ∷ 9 ∷ 9 ∷ 9 ∷ []) ≡ (Question (the.Reading Bme280 Comp (one-reading 1 0 1 1 7 255)), 1 ∷ 2 ∷ 9 ∷ 9 ∷ [])
  pub point : asked (letters "point - 01 0203 0 8 3") (9 ∷ 9 ∷ 9 ∷ 9 ∷ []) ≡ (Question (the.Reading Bme280 Point (one-reading 0 1 2 0 8 3)), 1 ∷ 2 ∷ 3 ∷ 9 ∷ [])
  pub cells : asked (letters "cells 01 02 - 1 2 3") (9 ∷ 9 ∷ 9 ∷ 9 ∷ []) ≡ (Question (the.Reading Bme280 Cells (one-reading 1 1 0 1 2 3)), 1 ∷ 2 ∷ 9 ∷ 9 ∷ [])
  pub rooms :
      asked (letters "rooms 01 - 02 1 2 3 - 0304 - 4 5 6 7 8 4294967295") (9 ∷ 9 ∷ 9 ∷ 9 ∷ 9 ∷ [])
      ≡ (Question (the.Reading Bme280 Rooms (two-readings 1 0 1 1 2 3 0 2 0 4 5 6 7 8 4294967295)), 1 ∷ 2 ∷ 3 ∷ 4 ∷ 9 ∷ [])
  pub bmp : asked (letters "bmp 01 - 0203 1 7 256") (9 ∷ 9 ∷ 9 ∷ 9 ∷ []) ≡ (Question (the.Reading Bmp280 Comp (one-reading 1 0 2 1 7 255)), 1 ∷ 2 ∷ 3 ∷ 9 ∷ [])
  pub wait : asked (letters "wait max 5 4 3") [] ≡ (Question (the.WaitMaximum 5 4 3), [])
  pub wait-typical : asked (letters "wait typ 1 0 0") [] ≡ (Question (the.WaitTypical 1 0 0), [])
  pub poll : asked (letters "poll 2 080900") (9 ∷ 9 ∷ 9 ∷ 9 ∷ []) ≡ (Question (the.Poll 2 3), 8 ∷ 9 ∷ 0 ∷ 9 ∷ [])
  pub i2c-write : asked (letters "i2c write 76 F427 3") (9 ∷ 9 ∷ 9 ∷ 9 ∷ []) ≡ (Question (the.BusWrite (At 0x76) 2 3), 0xF4 ∷ 0x27 ∷ 9 ∷ 9 ∷ [])
  pub i2c-decode : asked (letters "i2c decode ECF427 4") (9 ∷ 9 ∷ 9 ∷ 9 ∷ []) ≡ (Question (the.BusDecode I2c 3 4), 0xEC ∷ 0xF4 ∷ 0x27 ∷ 9 ∷ [])
  pub i2c-read : asked (letters "i2c read 76 f7 3") [] ≡ (Question (the.BusRead (At 0x76) 0xF7 3), [])
  pub spi-write : asked (letters "spi write F427 2") (9 ∷ 9 ∷ 9 ∷ 9 ∷ []) ≡ (Question (the.BusWrite Selected 2 2), 0xF4 ∷ 0x27 ∷ 9 ∷ 9 ∷ [])
  pub spi-decode : asked (letters "spi decode 7427 2") (9 ∷ 9 ∷ 9 ∷ 9 ∷ []) ≡ (Question (the.BusDecode Spi 2 2), 0x74 ∷ 0x27 ∷ 9 ∷ 9 ∷ [])
  pub spi-read : asked (letters "spi read F7 256") [] ≡ (Question (the.BusRead Selected 0xF7 256), [])
  pub visit-read : asked (letters "visit read 010000 9") (9 ∷ 9 ∷ 9 ∷ 9 ∷ []) ≡ (Question (the.VisitRead 3 9), 1 ∷ 0 ∷ 0 ∷ 9 ∷ [])
  pub day : asked (letters "day 01 - 0203 256") (9 ∷ 9 ∷ 9 ∷ 9 ∷ []) ≡ (Question (the.Day 1 0 2 256), 1 ∷ 2 ∷ 3 ∷ 9 ∷ [])
  -- its steps are read later, and there may be none
  pub visit-write : asked (letters "visit write 40 ( x  )") [] ≡ (VisitWrite 40 14, [])
  pub no_steps : asked (letters "visit write 9") [] ≡ (VisitWrite 9 13, [])
  pub fresh : asked (letters "fresh") [] ≡ (Fresh Bme280 0, [])
  pub fresh-after : asked (letters "fresh 4294967295") [] ≡ (Fresh Bme280 4294967295, [])
  pub fresh-bmp : asked (letters "fresh bmp") [] ≡ (Fresh Bmp280 0, [])
  pub fresh-bmp-after : asked (letters "fresh bmp 7") [] ≡ (Fresh Bmp280 7, [])
  pub write : asked (letters "write F4 27") [] ≡ (Event (events.Write 0xF4 0x27), [])
  pub finish : asked (letters "finish 519888 415148 0") [] ≡ (Event (events.Finish 519888 415148 0), [])
  pub close : asked (letters "close 8") [] ≡ (Event (events.Close 8), [])
  pub ledger : asked (letters "ledger") [] ≡ (Ledger, [])
  -- reasons, in their order
  pub empty : asked (letters "") [] ≡ (Nothing, [])
  pub spaces-alone : asked (letters "  ") [] ≡ (Refused UnknownWord, [])
  pub longer-word : asked (letters "freshen") [] ≡ (Refused UnknownWord, [])
  pub shorter-word : asked (letters "fres 7") [] ≡ (Refused UnknownWord, [])
  pub second-missing : asked (letters "wait") [] ≡ (Refused WrongNumberOfWords, [])
  pub second-unknown : asked (letters "wait  max 5 5 5") [] ≡ (Refused UnknownWord, [])
  pub visit-alone : asked (letters "visit") [] ≡ (Refused WrongNumberOfWords, [])
  pub no_length : asked (letters "visit write") [] ≡ (Refused WrongNumberOfWords, [])
  pub visit-unknown : asked (letters "visit x 9 (") [] ≡ (Refused UnknownWord, [])
  pub trailing-space : asked (letters "copied ") [] ≡ (Refused WrongNumberOfWords, [])
  pub one-too-many : asked (letters "fresh 1 2") [] ≡ (Refused WrongNumberOfWords, [])
  pub part-unknown : asked (letters "fresh xyz") [] ≡ (Refused NotANumber, [])
  pub part-longer : asked (letters "fresh bmp280") [] ≡ (Refused NotANumber, [])
  pub part-and-number : asked (letters "fresh bmp x") [] ≡ (Refused NotANumber, [])
  pub part-too-many : asked (letters "fresh bmp 1 2") [] ≡ (Refused WrongNumberOfWords, [])
  pub part-after-number : asked (letters "fresh 1 bmp") [] ≡ (Refused WrongNumberOfWords, [])
  pub words-before-values : asked (letters "write G4") [] ≡ (Refused WrongNumberOfWords, [])
  pub no-characters : asked (letters "poll  08") [] ≡ (Refused NotANumber, [])
  -- the first of several decides, and what was read before it stays laid
  pub first-decides : asked (letters "i2c write 7G 080 257") [] ≡ (Refused NotANumber, [])
  pub odd-digits : asked (letters "spi write F427F 257") (9 ∷ 9 ∷ 9 ∷ []) ≡ (Refused OddHex, 0xF4 ∷ 0x27 ∷ 9 ∷ [])
  pub length-first : asked (letters "visit write 257 x") [] ≡ (Refused TooLong, [])
  pub long-buffer : asked (letters "spi write F427 257") (9 ∷ 9 ∷ 9 ∷ []) ≡ (Refused TooLong, 0xF4 ∷ 0x27 ∷ 9 ∷ [])

pub lines-read : Lines
unfolding asked table.tried table.commands table.words table.sent table.is_of table.is_open table.fits table.asked_by words.count arguments.is_argument arguments.start arguments.stepped arguments.walked
    word reading.argument reading.number reading.octet reading.pair reading.second_digit
    reading.decimal reading.read_on reading.bytes reading.word_laid reading.is_dash reading.pairs_laid reading.digit_value reading.letter_value
lines-read =
    record {
      cal = refl;
      comp = refl;
      point = refl;
      cells = refl;
      rooms = refl;
      bmp = refl;
      wait = refl;
      wait-typical = refl;
      poll = refl;
      i2c-write = refl;
      i2c-decode = refl;
      i2c-read = refl;
      spi-write = refl;
      spi-decode = refl;
      spi-read = refl;
      visit-read = refl;
      day = refl;
      visit-write = refl;
      no_steps = refl;
      fresh = refl;
      fresh-after = refl;
      fresh-bmp = refl;
      fresh-bmp-after = refl;
      write = refl;
      finish = refl;
      close = refl;
      ledger = refl;
      empty = refl;
      spaces-alone = refl;
      longer-word = refl;
      shorter-word = refl;
      second-missing = refl;
      second-unknown = refl;
      visit-alone = refl;
      no_length = refl;
      visit-unknown = refl;
      trailing-space = refl;
      one-too-many = refl;
      part-unknown = refl;
      part-longer = refl;
      part-and-number = refl;
      part-too-many = refl;
      part-after-number = refl;
      words-before-values = refl;
      no-characters = refl;
      first-decides = refl;
      odd-digits = refl;
      length-first = refl;
      long-buffer = refl;
    }
