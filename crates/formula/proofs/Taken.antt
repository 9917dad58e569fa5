-- Where a plain road is taken, what it gives is the answer.
use Prim.Native.Nat.{ℕ}
use mathlib.Core.Path.{◌≡◌, sym, ◌∙◌}
use mathlib.Core.Bool.{Bool, true, false}
use Rattle.std.specs.Prelude.{Option, Some, Ok, Err}
use Rattle.std.proofs.lemmas.Option.{none-some}
use Rattle.formula.specs.declared.Temperature.{Temperature}
use Rattle.formula.specs.Answers.{TemperatureAnswer, ChannelAnswer}
use Rattle.formula.specs.Plain.{channel_plainly, temperature_plainly}

pub taken-channel : (b : Bool) (a : ChannelAnswer) (r : Option ℕ) (value : ℕ) → r ≡ channel_plainly b a → r ≡ Some value → a ≡ Ok value
unfolding channel_plainly
taken-channel true (Ok x) r value e t = cc
taken-channel true (Err m) r value e t = absurd (none-some value (sym e ∙ t))
taken-channel false a r value e t = absurd (none-some value (sym e ∙ t))

pub taken-temperature : (b : Bool) (a : TemperatureAnswer) (r : Option Temperature) (value : Temperature) → r ≡ temperature_plainly b a → r ≡ Some value → a ≡ Ok value
unfolding temperature_plainly
taken-temperature true (Ok x) r value e t = cc
taken-temperature true (Err m) r value e t = absurd (none-some value (sym e ∙ t))
taken-temperature false a r value e t = absurd (none-some value (sym e ∙ t))
