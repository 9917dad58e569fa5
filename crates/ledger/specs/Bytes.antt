-- The data bytes of a conversion, from the codes that it began with and its counts. They have eight places, and a part without humidity has 0 in the last two.
use Rattle.std.specs.Prelude.{ℕ, ◌*◌, ◌/◌, ◌%◌, cond, List, [], ◌∷◌, ◌++◌, eqb}
use Rattle.kinds.specs.declared.Kind.{Kind}
use Rattle.kinds.specs.Chips.{facts}
use Rattle.machine.specs.declared.Codes.{Codes}

-- high byte first
abbrev pub two_bytes : ℕ → List ℕ
two_bytes n = n / 256 % 256 ∷ n % 256 ∷ []

abbrev pub three_bytes : ℕ → List ℕ
three_bytes n = n / 65536 % 256 ∷ two_bytes n

-- a channel of code 0 is skipped, and stores another number in place of its count
abbrev pub unless_skipped : ℕ → ℕ → ℕ → ℕ
unless_skipped code skipped count = cond (eqb code 0) skipped count

-- pressure, temperature, humidity; a count of 20 bits stands in the upper bits of three bytes
unfoldable pub data_bytes : Kind → Codes → ℕ → ℕ → ℕ → List ℕ
data_bytes kind c t p u =
    three_bytes (unless_skipped c.pressure 0x80000 p * 16)
    ++ three_bytes (unless_skipped c.temperature 0x80000 t * 16)
    ++ two_bytes (cond (facts kind).humidity (unless_skipped c.humidity 0x8000 u) 0)
