-- Two answers that a promise allows are equal: the paper's number and values leave only one case of a Result.
use mathlib.Core.Path.{◌≡◌, ap}
use Prim.Native.Nat.{ℕ}
use Rattle.std.specs.Prelude.{ℤ, pos, List, ◌∷◌, Ok, Err}
use Rattle.paper.specs.Answers.{missing}
use Rattle.paper.proofs.Answers.{same_number, same-values}
use Rattle.formula.specs.declared.Temperature.{Temperature}
use Rattle.formula.specs.Answers.{TemperatureAnswer, ChannelAnswer, temperature_answer, channel_answer}

-- a temperature, read back from its two values
abbrev read : List ℤ → Temperature
read (value ∷ fine ∷ rest) = record { value = value; fine = fine }
read rest = record { value = pos 0; fine = pos 0 }

pub one-temperature : (a b : TemperatureAnswer) → temperature_answer a ≡ temperature_answer b → a ≡ b
unfolding temperature_answer
one-temperature (Ok t) (Ok u) e = ap (λ (v : List ℤ). Ok (read v)) (same-values e)
one-temperature (Ok t) (Err m) e = cc (same-values e)
one-temperature (Err m) (Ok u) e = cc (same-values e)
one-temperature (Err m) (Err n) e = ap (λ (k : ℕ). Err (missing k)) (same_number e)

pub one-channel : (a b : ChannelAnswer) → channel_answer a ≡ channel_answer b → a ≡ b
unfolding channel_answer
one-channel (Ok v) (Ok u) e = cc (same-values e)
one-channel (Ok v) (Err m) e = cc (same-values e)
one-channel (Err m) (Ok u) e = cc (same-values e)
one-channel (Err m) (Err n) e = ap (λ (k : ℕ). Err (missing k)) (same_number e)
