-- What an answer hands back, as figures: the paper's number, and then the values, where there are any.
use Rattle.std.specs.Prelude.{ℕ, Bool, true, false, List, [], ◌∷◌, ◌++◌, ℤ, pos, Ok, Err}
use Rattle.paper.specs.Numbers as no
use Rattle.paper.specs.Answers.{Answered, Answer, SignedAnswer}
use Rattle.calibration.specs.Calibration.{Calibration}
use Rattle.formula.specs.Answers.{TemperatureAnswer, ChannelAnswer}
use Rattle.machine.specs.declared.Outcome.{Outcome}
use Rattle.machine.specs.declared.Ledger.{Ledger}

abbrev pub of_temperature : TemperatureAnswer → List ℤ
of_temperature (Ok t) = pos no.done ∷ t.value ∷ []
of_temperature (Err m) = pos m.number ∷ []

-- the fine temperature, which is absent where the temperature is
abbrev pub of_fine : TemperatureAnswer → List ℤ
of_fine (Ok t) = t.fine ∷ []
of_fine (Err m) = []

-- a pressure or a humidity
abbrev pub of_channel : ChannelAnswer → List ℤ
of_channel (Ok value) = pos no.done ∷ pos value ∷ []
of_channel (Err m) = pos m.number ∷ []

-- H4 and H5
abbrev pub of_calibration : Calibration → List ℤ
of_calibration (Ok words) = pos no.done ∷ words.humidity.h4 ∷ words.humidity.h5 ∷ []
of_calibration (Err r) = pos r.number ∷ []

-- the number of the whole, and then each channel's number and values
abbrev pub of_channels : List SignedAnswer → List ℤ
of_channels [] = []
of_channels (a ∷ rest) = pos a.number ∷ (a.values ++ of_channels rest)

abbrev pub of_reading : Answered SignedAnswer → List ℤ
of_reading a = pos a.number ∷ of_channels a.values

-- numbers that are never negative
abbrev pub of_numbers : List ℕ → List ℤ
of_numbers [] = []
of_numbers (n ∷ ns) = pos n ∷ of_numbers ns

abbrev pub of_answer : Answer → List ℤ
of_answer a = of_numbers (a.number ∷ a.values)

-- and the lent bytes then
abbrev pub of_encoded : Answer × List ℕ → List ℤ
of_encoded (a, lent) = of_answer a ++ of_numbers lent

-- whether it was whole, and the number shown
abbrev pub bit : Bool → ℕ
bit true = 1
bit false = 0

abbrev pub of_closing : Outcome → List ℤ
of_closing c = of_numbers (c.answer ∷ bit c.whole ∷ c.number ∷ [])

-- begun, delivered, overwritten, abandoned, standing
abbrev pub of_ledger : Ledger → List ℤ
of_ledger l = of_numbers (l.begun ∷ l.delivered ∷ l.overwritten ∷ l.abandoned ∷ l.standing ∷ [])
