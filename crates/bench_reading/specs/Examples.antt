-- Readings as text, by the definitions.
use Rattle.std.specs.Prelude.{◌≡◌, refl, pos, negsuc, Ok, Err}
use Rattle.paper.specs.Answers.{missing, refusal}
use Rattle.bench_page.specs.Page.{letters}
use Rattle.bench_page.specs.Digits.{decimal, signed, spelled}
use Rattle.bench_row.specs.Row.{filled_from}
use Rattle.bench_reading.specs.Reading.{reading, channels, answered}

pub frosty :
    answered (Ok (record { temperature = Ok (record { value = negsuc 99; fine = pos 128422 }); pressure = Ok 25767233; humidity = Err (missing 12) }))
    ≡ letters "0 t=-100 fine=128422 p=25767233 h!12"
unfolding reading channels filled_from signed decimal spelled
frosty = refl

-- with no temperature there is no fine temperature
pub untold :
    answered (Ok (record { temperature = Err (missing 10); pressure = Err (missing 11); humidity = Ok 0 }))
    ≡ letters "0 t!10 p!11 h=0"
unfolding reading channels filled_from decimal spelled
untold = refl

pub refused : answered (Err (refusal 7)) ≡ letters "7"
unfolding decimal spelled
refused = refl
