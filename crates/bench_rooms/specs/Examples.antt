-- Points, cells and verdicts as text, by the definitions.
use Rattle.std.specs.Prelude.{◌≡◌, refl, pos, negsuc}
use Rattle.std.specs.Float.Ieee.{to_bits, of_int, div}
use Rattle.paper.specs.Answers.{missing}
use Rattle.rooms.specs.declared.Cell.TheVariants.{Temperature, Pressure, Humidity, Missing}
use Rattle.rooms.specs.declared.Cells.{Cells}
use Rattle.rooms.specs.declared.Verdict.TheVariants.{Agree, Differ, Unknown}
use Rattle.rooms.specs.Points.{hundredths, pascals, percent, over, point_of}
use Rattle.bench_page.specs.Page.{letters}
use Rattle.bench_page.specs.Digits as spelt
use Rattle.bench_row.specs.Row.{filled_from}
use Rattle.bench_rooms.specs.Map.{double, point, cell, cells, verdict, verdicts}

-- K1 and K2 at codes 1, 1 and 0: 2508 and 25767233, and no humidity
abbrev dry : Cells
dry = record { temperature = Temperature (hundredths (pos 2508)); pressure = Pressure (pascals 25767233); humidity = Missing (missing 10) }

pub dry-point : point (point_of dry) ≡ letters "t=40A3980000000000 p=40F892D410000000 h=0000000000000000 known=1,1,0"
unfolding point double filled_from spelt.pair spelt.hex_digit spelt.decimal spelt.spelled over to_bits of_int div
dry-point = refl

pub dry-cells : cells dry ≡ letters "t=40A3980000000000 p=40F892D410000000 h!10"
unfolding cells cell double filled_from spelt.pair spelt.hex_digit spelt.decimal spelt.spelled over to_bits of_int div
dry-cells = refl

-- below zero, and with a humidity
pub frosty :
    cells (record { temperature = Temperature (hundredths (negsuc 0)); pressure = Missing (missing 12); humidity = Humidity (percent 102400) })
    ≡ letters "t=BFF0000000000000 p!12 h=4059000000000000"
unfolding cells cell double filled_from spelt.pair spelt.hex_digit spelt.decimal spelt.spelled over to_bits of_int div
frosty = refl

-- refused whole
pub refused : cells (record { temperature = Missing (missing 2); pressure = Missing (missing 2); humidity = Missing (missing 2) }) ≡ letters "t!2 p!2 h!2"
unfolding cells cell filled_from spelt.decimal spelt.spelled
refused = refl

pub compared : verdicts (record { temperature = Agree; pressure = Differ; humidity = Unknown }) ≡ letters "t=agree p=differ h=unknown"
unfolding verdicts verdict
compared = refl
