-- What a question is answered, but for the newline. The bytes of its words are laid one after another.
use Rattle.std.specs.Prelude.{ℕ, List, take, drop}
use Rattle.kinds.specs.declared.Kind.{Kind}
use Rattle.compensation.specs.Compensation.{Answer}
use Rattle.compensation_kinds.specs.Kinds.{compensated_by}
use Rattle.rooms.specs.declared.Tolerances.{Tolerances}
use Rattle.rooms.specs.declared.Verdicts.{Verdicts}
use Rattle.rooms.specs.Points.{cells_of, point_of}
use Rattle.rooms.specs.Compared.{compared_rooms}
use Rattle.bus.specs.Writing.{encoded_write, decoded_write}
use Rattle.bus.specs.Reading.{encoded_read}
use Rattle.waiting.specs.Waiting.{waited, maximum, typical}
use Rattle.waiting.specs.Polling.{polled}
use Rattle.bench_command.specs.declared.Words.{Words}
use Rattle.bench_command.specs.declared.Sent.{Sent}
use Rattle.bench_command.specs.declared.Shown.{Shown}
use Rattle.bench_command.specs.declared.Shown.TheVariants.{Comp, Point, Cells, Rooms}
use Rattle.bench_command.specs.declared.Question.{Question}
use Rattle.bench_command.specs.declared.Question.TheVariants as the
use Rattle.bench_reading.specs.Reading as readings
use Rattle.bench_rooms.specs.Map as map
use Rattle.bench_waiting.specs.Times as times
use Rattle.bench_lent.specs.Lent.{lent_of}
use Rattle.bench_bus.specs.Messages.{message}
use Rattle.visit.specs.Lent.{read_into}
use Rattle.bench_visit.specs.Visits as visits
use Rattle.day.specs.Day as of
use Rattle.bench_day.specs.Days as days

abbrev pub cal : ℕ → ℕ → List ℕ → List ℕ
cal one two bytes = readings.cal (take one bytes) (take two (drop one bytes))

-- ---- readings of a kind of part: two blocks and the data; the bytes of a second reading follow those of the first

unfoldable pub answer : Kind → Words → List ℕ → Answer
answer kind w bytes = compensated_by kind (take w.one bytes) (take w.two (drop w.one bytes)) (take w.raw (drop w.two (drop w.one bytes))) w.t w.p w.h

abbrev pub first : Kind → Sent → List ℕ → Answer
first kind s bytes = answer kind s.first bytes

abbrev pub second : Kind → Sent → List ℕ → Answer
second kind s bytes = answer kind s.second (drop s.first.raw (drop s.first.two (drop s.first.one bytes)))

abbrev pub tolerances : Sent → Tolerances
tolerances s = record { temperature = s.temperature; pressure = s.pressure; humidity = s.humidity }

unfoldable pub compared : Kind → Answer → Sent → List ℕ → Verdicts
compared kind a s bytes = compared_rooms a (second kind s bytes) (tolerances s)

unfoldable pub reading : Kind → Shown → Sent → List ℕ → List ℕ
reading kind Comp s bytes = readings.answered (first kind s bytes)
reading kind Point s bytes = map.point (point_of (cells_of (first kind s bytes)))
reading kind Cells s bytes = map.cells (cells_of (first kind s bytes))
reading kind Rooms s bytes = map.verdicts (compared kind (first kind s bytes) s bytes)

-- ---- a day: two blocks and its readings

unfoldable pub day : ℕ → ℕ → ℕ → ℕ → List ℕ → List ℕ
day one two readings room bytes =
    days.day (of.day (take one bytes) (take two (drop one bytes)) (take readings (drop two (drop one bytes))) (days.lent_answers room))

-- ---- each question

abbrev pub replied : Question → List ℕ → List ℕ
replied (the.Cal one two) bytes = cal one two bytes
replied (the.Reading kind shown sent) bytes = reading kind shown sent bytes
replied (the.WaitMaximum t p h) bytes = times.wait (waited maximum t p h)
replied (the.WaitTypical t p h) bytes = times.wait (waited typical t p h)
replied (the.Poll allowance status) bytes = times.poll (polled (take status bytes) allowance)
replied (the.BusWrite device pairs room) bytes = message (encoded_write device (take pairs bytes) (lent_of room))
replied (the.BusDecode bus sent room) bytes = message (decoded_write bus (take sent bytes) (lent_of room))
replied (the.BusRead device register room) bytes = message (encoded_read device register (lent_of room))
replied (the.VisitRead length room) bytes = visits.read (read_into (take length bytes) (visits.lent_steps room))
replied (the.Day one two readings room) bytes = day one two readings room bytes
