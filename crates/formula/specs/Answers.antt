-- The answer of a channel, made of a formula's last number; and the paper's number and values of it.
use Rattle.std.specs.Prelude.{ℕ, [], ◌∷◌, pos, nat_abs, Result, Ok, Err}
use Rattle.paper.specs.Numbers as no
use Rattle.paper.specs.Answers.{SignedAnswer, given, refused}
use Rattle.paper.specs.declared.Missing.{Missing}
use Rattle.steps.specs.Step.{Num}
use Rattle.formula.specs.declared.Temperature.{Temperature}

-- a temperature, or what stands in its place
abbrev pub TemperatureAnswer : Type 0
TemperatureAnswer = Result Temperature Missing

-- a pressure or a humidity, or what stands in its place
abbrev pub ChannelAnswer : Type 0
ChannelAnswer = Result ℕ Missing

-- the answer of pressure and humidity
abbrev pub answered : Num → ChannelAnswer
answered (Ok z) = Ok (nat_abs z)
answered (Err m) = Err m

-- the paper's number and values for each case: the fine temperature goes with the temperature
unfoldable pub temperature_answer : TemperatureAnswer → SignedAnswer
temperature_answer (Ok t) = given (t.value ∷ t.fine ∷ [])
temperature_answer (Err m) = refused m.number

unfoldable pub channel_answer : ChannelAnswer → SignedAnswer
channel_answer (Ok value) = given (pos value ∷ [])
channel_answer (Err m) = refused m.number

-- the number alone
abbrev pub temperature_number : TemperatureAnswer → ℕ
temperature_number (Ok t) = no.done
temperature_number (Err m) = m.number

abbrev pub channel_number : ChannelAnswer → ℕ
channel_number (Ok value) = no.done
channel_number (Err m) = m.number
