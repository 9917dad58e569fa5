-- Calls of both kinds, worked out apart from the definitions: K1 and K2 of a BMP280, and what refuses it.
use Prim.Native.Nat.{ℕ}
use mathlib.Core.List.{List, [], ◌∷◌}
use mathlib.Core.Path.{refl}
use lib.IntN.{pos}
use lib.ListN.{replicate}
use Rattle.laws.specs.Tables.{Row, ◌gives◌, AllHold}
use Rattle.steps.specs.Step.{on_value, on_values}
use Rattle.steps.specs.Work.{run}
use Rattle.paper.specs.Answers.{Answered, SignedAnswer, given, refused}
use Rattle.formula.specs.Answers.{temperature_answer, channel_answer}
use Rattle.formula_temperature.specs.Temperature as t
use Rattle.formula_pressure.specs.Pressure as p
use Rattle.kinds.specs.declared.Kind.TheVariants.{Bme280, Bmp280}
use Rattle.compensation.specs.Compensation.{reading_answer}
use Rattle.compensation_kinds.specs.Kinds.{compensated_by}

-- block one of the chip of K1 and K2, the six bytes of their counts 415148 and 519888, and zeros
abbrev block_one : List ℕ
block_one =
    0x70 ∷ 0x6B ∷ 0x43 ∷ 0x67 ∷ 0x18 ∷ 0xFC ∷ 0x7D ∷ 0x8E ∷ 0x43 ∷ 0xD6 ∷ 0xD0 ∷ 0x0B ∷ 0x27
    ∷ 0x0B ∷ 0x8C ∷ 0x00 ∷ 0xF9 ∷ 0xFF ∷ 0x8C ∷ 0x3C ∷ 0xF8 ∷ 0xC6 ∷ 0x70 ∷ 0x17 ∷ 0x00 ∷ 0x00 ∷ []

abbrev six : List ℕ
six = 0x65 ∷ 0x5A ∷ 0xC0 ∷ 0x7E ∷ 0xED ∷ 0x00 ∷ []

abbrev zeros : ℕ → List ℕ
zeros n = replicate n 0

abbrev bmp280 : List ℕ → List ℕ → List ℕ → ℕ → ℕ → ℕ → Answered SignedAnswer
bmp280 one two bytes t p h = reading_answer (compensated_by Bmp280 one two bytes t p h)

pub calls : List (Row (Answered SignedAnswer))
calls =
    -- K1 and K2, and no humidity, whatever the third code
    (bmp280 block_one [] six 1 1 0 gives given (given (pos 2508 ∷ pos 128422 ∷ []) ∷ given (pos 25767233 ∷ []) ∷ refused 10 ∷ []))
    ∷ (bmp280 block_one [] six 7 7 7 gives given (given (pos 2508 ∷ pos 128422 ∷ []) ∷ given (pos 25767233 ∷ []) ∷ refused 10 ∷ []))
    -- a skipped pressure, and a skipped temperature
    ∷ (bmp280 block_one [] six 1 0 1 gives given (given (pos 2508 ∷ pos 128422 ∷ []) ∷ refused 10 ∷ refused 10 ∷ []))
    ∷ (bmp280 block_one [] six 0 1 1 gives given (refused 10 ∷ refused 11 ∷ refused 10 ∷ []))
    -- a byte too few or too many, and the BME280's lengths; lengths come before codes
    ∷ (bmp280 (zeros 25) [] six 1 1 1 gives refused 2)
    ∷ (bmp280 (zeros 27) [] six 1 1 1 gives refused 2)
    ∷ (bmp280 block_one (zeros 1) six 1 1 1 gives refused 2)
    ∷ (bmp280 block_one (zeros 7) six 1 1 1 gives refused 2)
    ∷ (bmp280 block_one [] (zeros 5) 1 1 1 gives refused 2)
    ∷ (bmp280 block_one [] (zeros 8) 8 8 8 gives refused 2)
    -- each code above 7, the third too
    ∷ (bmp280 block_one [] six 8 1 1 gives refused 7)
    ∷ (bmp280 block_one [] six 1 8 1 gives refused 7)
    ∷ (bmp280 block_one [] six 1 1 8 gives refused 7)
    -- a BME280 takes no BMP280's lengths
    ∷ (reading_answer (compensated_by Bme280 block_one [] six 1 1 1) gives refused 2)
    ∷ []

pub all_hold : AllHold calls
unfolding calls run on_value on_values t.slope_line t.curve_line t.fine_lines t.degrees_line t.temperature_of
    p.difference_line p.offset_lines p.scale_lines p.divisor_lines p.quotient_lines p.curve_line p.slope_line p.last_line p.refined_lines p.pressure_lines p.pressure_formula p.pressure_of
    temperature_answer channel_answer compensated_by reading_answer
all_hold = refl
