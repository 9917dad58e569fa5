-- Whether two texts are the same, byte by byte: what the library's == says of two slices of bytes.
use Rattle.std.specs.Prelude.{ℕ, Bool, List}
use Rattle.std.specs.Str.{bytes_eq}

abbrev pub same : List ℕ → List ℕ → Bool
same s t = bytes_eq s t
