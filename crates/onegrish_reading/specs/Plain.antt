-- The plain road of a whole reading: when it is tried, and what it leaves where it is taken to its end and where it is not.
use Rattle.std.specs.Prelude.{ℕ, ◌≡◌, Bool, true, false, ◌&&◌, List, leb, eqb, ℤ}
use Rattle.paper.specs.Numbers as no
use Rattle.paper.specs.Registers as reg
use Rattle.plain_reading.specs.Plain.{are_enabled}

-- eight bytes, enabled codes, and room for three numbers and four values
abbrev pub is_tried : ℕ → ℕ → ℕ → ℕ → ℕ → ℕ → Bool
is_tried bytes t p h numbers values = eqb bytes reg.data_length && (are_enabled t p h && (leb 3 numbers && leb 4 values))

-- the answer 0, with what the places hold then
abbrev pub done_with : List ℕ × List ℤ → ℕ × List ℕ × List ℤ
done_with places = (no.done, places.0, places.1)

-- where it is taken the places hold what is answered with 0, and else what they held
abbrev pub Handed : Bool → ℕ × List ℕ × List ℤ → List ℕ × List ℤ → List ℕ × List ℤ → Type 0
Handed true answer before after = done_with after ≡ answer
Handed false answer before after = after ≡ before
