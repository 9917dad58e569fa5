-- A map point in lent places: the paper's number, and what the places hold then. 9 leaves each as it was.
use Rattle.std.specs.Prelude.{ℕ, cond, ◌&&◌, List, leb, Float, length, set}
use Rattle.paper.specs.Numbers as no
use Rattle.compensation.specs.Compensation.{Answer}
use Rattle.rooms.specs.declared.Cell.{Cell}
use Rattle.rooms.specs.Points.{cells_of, cell_answer, point_of, flag}
use Rattle.onegrish_rooms.specs.declared.Marks.{Marks}

-- three places at the front: temperature, pressure, humidity
abbrev pub front : {A : Type 0} → A → A → A → List A → List A
front t p h lent = set (set (set lent 0 t) 1 p) 2 h

-- the number of a cell: 0, or what stands in its place
abbrev pub number : Cell → ℕ
number cell = (cell_answer cell).number

-- a reading's map point, and the numbers of its cells; one that is refused whole is a point too, with three missing
abbrev pub marks_of : Answer → Marks
marks_of answer = record {
  point = point_of (cells_of answer);
  temperature = number (cells_of answer).temperature;
  pressure = number (cells_of answer).pressure;
  humidity = number (cells_of answer).humidity;
}

-- the flags are 1 for a channel that has a value, 0 for one that is missing; 9 for fewer than three places of any kind
abbrev pub marks_into : Marks → List Float → List ℕ → List ℕ → ℕ × List Float × List ℕ × List ℕ
marks_into m doubles known numbers =
    cond (leb 3 (length doubles) && (leb 3 (length known) && leb 3 (length numbers))) (
      no.done,
      front m.point.temperature m.point.pressure m.point.humidity doubles,
      front (flag m.point.temperature_known) (flag m.point.pressure_known) (flag m.point.humidity_known) known,
      front m.temperature m.pressure m.humidity numbers,
    )
    (no.buffer_too_short, doubles, known, numbers)

abbrev pub point_into : Answer → List Float → List ℕ → List ℕ → ℕ × List Float × List ℕ × List ℕ
point_into answer doubles known numbers = marks_into (marks_of answer) doubles known numbers
