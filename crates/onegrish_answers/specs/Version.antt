-- The version of the library's interface. Version 2 hands the chip's words over in 16 bits, and takes them again.
use Rattle.std.specs.Prelude.{ℕ}

abbrev pub version : ℕ
version = 2
