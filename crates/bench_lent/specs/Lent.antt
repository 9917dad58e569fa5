-- The buffers that the bench lends.
use Rattle.std.specs.Prelude.{ℕ, min, List, replicate, take}

abbrev pub longest_buffer : ℕ
longest_buffer = 256

-- a length beyond the longest buffer is taken for the longest
unfoldable pub within : ℕ → ℕ
within n = min n longest_buffer

-- a buffer of the longest length, filled with AA, and the part of it that is of the length asked
unfoldable pub filled : List ℕ
filled = replicate longest_buffer 0xAA

unfoldable pub lent_of : ℕ → List ℕ
lent_of n = take (within n) filled
