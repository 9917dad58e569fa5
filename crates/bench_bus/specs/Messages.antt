-- i2c and spi: `0 n=BYTES buf=..`, with `addr=` after the number where an I2C message is decoded, or `N buf=..`.
use Rattle.std.specs.Prelude.{ℕ, List, [], ◌∷◌, ◌++◌}
use Rattle.paper.specs.Numbers.{done}
use Rattle.paper.specs.Answers.{Answer}
use Rattle.bus.specs.declared.Device.{Device}
use Rattle.bus.specs.declared.Device.TheVariants.{At, Selected}
use Rattle.bench_page.specs.Page.{letters}
use Rattle.bench_page.specs.Digits.{decimal}
use Rattle.bench_row.specs.Row.{filled, buffer}

abbrev pub counted : ℕ → ℕ → List ℕ
counted number n = filled (letters "# n=#") (number ∷ n ∷ [])

abbrev pub addressed : ℕ → ℕ → ℕ → List ℕ
addressed number address n = filled (letters "# addr=@ n=#") (number ∷ address ∷ n ∷ [])

-- the number, with the number of bytes, after the address where there is one
abbrev pub values : ℕ → List ℕ → List ℕ
values number [] = decimal number
values number (n ∷ []) = counted number n
values number (address ∷ n ∷ rest) = addressed number address n

abbrev pub answered : Answer → List ℕ
answered a = values a.number a.values

-- and the whole lent buffer
unfoldable pub message : Answer × List ℕ → List ℕ
message o = answered o.0 ++ buffer o.1

-- a device that was found, and the bytes of its pairs
abbrev pub found : Device → ℕ → List ℕ
found (At address) n = addressed done address n
found Selected n = counted done n
