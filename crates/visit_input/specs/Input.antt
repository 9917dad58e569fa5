-- How many bytes were read lies within the buffer.
use Rattle.std.specs.Prelude.{ℕ, ◌≤◌, Result, Ok, Err}

abbrev pub Within : {E : Type 0} → Result ℕ E → ℕ → Type 0
Within (Ok n) size = n ≤ size
Within (Err e) size = Unit
