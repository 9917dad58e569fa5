-- Worked cases, with figures that were worked out apart from the definitions: the bits of doubles, and rooms on the tolerance's edge.
use Prim.Native.Nat.{ℕ}
use mathlib.Core.List.{List, [], ◌∷◌}
use mathlib.Core.Path.{refl}
use lib.IntN.{pos, negsuc}
use lib.Ieee.{binary64, to_bits, of_int, div}
use Rattle.laws.specs.Tables.{Row, ◌gives◌, AllHold}
use Rattle.std.specs.Prelude.{Ok, Err}
use Rattle.paper.specs.Answers.{missing}
use Rattle.rooms.specs.declared.Verdict.{Verdict}
use Rattle.rooms.specs.declared.Verdict.TheVariants.{Agree, Differ, Unknown}
use Rattle.rooms.specs.Points.{hundredths, over, pascals, percent}
use Rattle.rooms.specs.Compared.{Whole, compared_channels}

pub bits : List (Row ℕ)
bits =
    -- K1 and K2: 25.08 degrees, 100653.25390625 Pa
    (to_bits binary64 (hundredths (pos 2508)) gives 0x40A3980000000000)
    ∷ (to_bits binary64 (pascals 25767233) gives 0x40F892D410000000)
    -- one hundredth below zero, and the lowest temperature
    ∷ (to_bits binary64 (hundredths (negsuc 0)) gives 0xBFF0000000000000)
    ∷ (to_bits binary64 (hundredths (negsuc 2147483647)) gives 0xC1E0000000000000)
    -- nothing at all, the least pressure and the highest
    ∷ (to_bits binary64 (pascals 0) gives 0)
    ∷ (to_bits binary64 (pascals 1) gives 0x3F70000000000000)
    ∷ (to_bits binary64 (pascals 4294967295) gives 0x416FFFFFFFE00000)
    -- a hundred %RH, and the least above none
    ∷ (to_bits binary64 (percent 102400) gives 0x4059000000000000)
    ∷ (to_bits binary64 (percent 1) gives 0x3F50000000000000)
    ∷ []

pub bits-hold : AllHold bits
unfolding bits over of_int div to_bits
bits-hold = refl

nothing : ℕ → Whole
nothing number = Err (missing number)

pub verdicts : List (Row Verdict)
unfolding nothing
verdicts =
    -- one apart: within a tolerance of 1, and not of 0
    (compared_channels (Ok (pos 2508)) (Ok (pos 2509)) 1 gives Agree)
    ∷ (compared_channels (Ok (pos 2508)) (Ok (pos 2509)) 0 gives Differ)
    ∷ (compared_channels (Ok (pos 2508)) (Ok (pos 2508)) 0 gives Agree)
    -- across zero
    ∷ (compared_channels (Ok (negsuc 4)) (Ok (pos 5)) 10 gives Agree)
    ∷ (compared_channels (Ok (negsuc 4)) (Ok (pos 5)) 9 gives Differ)
    -- 4,294,967,295 apart, which needs 33 bits with a sign
    ∷ (compared_channels (Ok (negsuc 2147483647)) (Ok (pos 2147483647)) 4294967295 gives Agree)
    ∷ (compared_channels (Ok (pos 2147483647)) (Ok (negsuc 2147483647)) 4294967294 gives Differ)
    -- a missing one agrees with nothing: not with zero, and not with another
    ∷ (compared_channels (Ok (pos 0)) (nothing 10) 4294967295 gives Unknown)
    ∷ (compared_channels (nothing 12) (Ok (pos 0)) 4294967295 gives Unknown)
    ∷ (compared_channels (nothing 10) (nothing 10) 4294967295 gives Unknown)
    ∷ []

pub verdicts-hold : AllHold verdicts
unfolding verdicts nothing
verdicts-hold = refl
