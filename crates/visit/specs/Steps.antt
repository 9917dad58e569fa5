-- A visit as a list of steps, under the names that the definitions use.
use Rattle.std.specs.Prelude.{ℕ, List, [], ◌∷◌, ◌++◌, Result, Ok, Err}
use Rattle.visit.specs.declared.Absent.{Absent}
pub use Rattle.visit.specs.declared.Slot.{Slot}
pub use Rattle.visit.specs.declared.Step.{Step}
pub use Rattle.visit.specs.declared.Step.TheVariants.{Open as opened, Slot as slotted, Close as closed, Stray as stray}

-- a value's word, or the number of a missing answer
abbrev pub Answer : Type 0
Answer = Result ℕ Absent

abbrev pub value : ℕ → Answer
value v = Ok v

abbrev pub missing : ℕ → Answer
missing number = Err (record { number = number })

-- a slot's step, from its time and its three answers
abbrev pub slot : ℕ → Answer → Answer → Answer → Step
slot time t p h = slotted (record { time = time; temperature = t; pressure = p; humidity = h })

-- the steps of a group, from those of what it holds
abbrev pub around : List Step → List Step
around held = opened ∷ (held ++ (closed ∷ []))
