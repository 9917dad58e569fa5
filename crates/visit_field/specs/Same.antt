-- What a front at an offset says of the bytes from there to the group's end, and that it says what the reader over lists of bytes says of them.
use Rattle.std.specs.Prelude.{ℕ, ◌+◌, ◌≤◌, List, ◌≡◌, length, Result, Ok, Err}
use Rattle.std.proofs.Math.Seq.{slice}
use Rattle.visit.specs.declared.Place.{Place}
use Rattle.visit.specs.declared.Fault.{Fault}
use Rattle.visit.specs.Reader as reader
use Rattle.visit_field.specs.declared.Front.{Front}
use Rattle.visit_field.specs.declared.Front.TheVariants.{Group, Told}

-- with the bytes themselves in the place of offsets
abbrev pub spread : List ℕ → ℕ → ℕ → Result Front Fault → reader.Front
spread s end at (Ok (Group next)) = reader.holding (slice (at + 3) next s) (slice next end s) next
spread s end at (Ok (Told a next)) = reader.telling a (slice next end s) next
spread s end at (Err f) = reader.failing f.number f.place

abbrev pub ReadsFronts : (Place → List ℕ → ℕ → ℕ → Result Front Fault) → Type 0
ReadsFronts front =
    (p : Place) (s : List ℕ) (end at : ℕ) → at ≤ end → end ≤ length s → reader.front p (slice at end s) at ≡ spread s end at (front p s end at)
