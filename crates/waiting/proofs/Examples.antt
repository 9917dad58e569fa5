-- Sums at every code, worked out apart from the definitions.
use mathlib.Core.List.{List, [], ◌∷◌}
use mathlib.Core.Path.{refl}
use Rattle.laws.specs.Tables.{Row, ◌gives◌, AllHold}
use Rattle.paper.specs.Answers.{Answer, given, refused}
use Rattle.waiting.specs.Waiting.{maximum, typical, samples, channel_part, microseconds, waited}

pub sums : List (Row Answer)
sums =
    -- at most, every code in every place
    (waited maximum 0 0 0 gives given (1250 ∷ []))
    ∷ (waited maximum 1 2 3 gives given (18500 ∷ []))
    ∷ (waited maximum 4 5 6 gives given (94400 ∷ []))
    ∷ (waited maximum 7 0 1 gives given (40925 ∷ []))
    ∷ (waited maximum 2 3 4 gives given (34600 ∷ []))
    ∷ (waited maximum 3 4 5 gives given (66800 ∷ []))
    ∷ (waited maximum 5 6 7 gives given (112800 ∷ []))
    ∷ (waited maximum 6 7 0 gives given (75425 ∷ []))
    -- typically
    ∷ (waited typical 0 0 0 gives given (1000 ∷ []))
    ∷ (waited typical 1 2 3 gives given (16000 ∷ []))
    ∷ (waited typical 4 5 6 gives given (82000 ∷ []))
    ∷ (waited typical 7 0 1 gives given (35500 ∷ []))
    ∷ (waited typical 2 3 4 gives given (30000 ∷ []))
    ∷ (waited typical 3 4 5 gives given (58000 ∷ []))
    ∷ (waited typical 5 6 7 gives given (98000 ∷ []))
    ∷ (waited typical 6 7 0 gives given (65500 ∷ []))
    -- a code of 8 in each place
    ∷ (waited maximum 8 0 0 gives refused 7)
    ∷ (waited maximum 0 8 0 gives refused 7)
    ∷ (waited maximum 0 0 8 gives refused 7)
    ∷ []

pub all_hold : AllHold sums
unfolding sums waited microseconds channel_part samples
all_hold = refl
