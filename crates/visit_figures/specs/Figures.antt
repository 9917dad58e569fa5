-- A temperature has two decimals, a pressure and a humidity as many as they need to be exact, and a missing answer has a number and no figure.
use Rattle.std.specs.Prelude.{ℕ, zero, suc, ◌+◌, ◌-◌, ◌*◌, ◌/◌, ◌%◌, cond, List, [], ◌∷◌, ◌++◌, eqb, ltb}
use Rattle.bench_page.specs.Page.{letters}
use Rattle.bench_page.specs.Digits as spelt
use Rattle.bench_row.specs.Row.{filled}

-- ---- temperatures: hundredths of a degree in two's complement, `-0.05 °C`

-- with two decimals, `0.05`
unfoldable pub hundredths : ℕ → List ℕ
hundredths n = filled (letters "#.##") (n / 100 ∷ n / 10 % 10 ∷ n % 10 ∷ [])

unfoldable pub degrees : ℕ → List ℕ
degrees word =
    cond (ltb word 0x80000000) (hundredths word) (letters "-" ++ hundredths (0xFFFFFFFF - word + 1))

-- the degree sign is C2 B0 in UTF-8
abbrev pub celsius : List ℕ
celsius = letters " " ++ (0xC2 ∷ 0xB0 ∷ letters "C")

unfoldable pub temperature : ℕ → List ℕ
temperature word = degrees word ++ celsius

-- ---- amounts that count parts of a unit

abbrev pub digit : ℕ → ℕ
digit n = 48 + n % 10

-- long division: at most so many decimals, and none once nothing is left
unfoldable pub decimals : ℕ → ℕ → ℕ → List ℕ
decimals zero left unit = []
decimals (suc more) left unit =
    cond (eqb left 0) [] (digit (left * 10 / unit) ∷ decimals more (left * 10 % unit) unit)

-- the whole units, and a point and decimals where something is left
unfoldable pub amount : ℕ → ℕ → List ℕ
amount word unit =
    spelt.decimal (word / unit) ++ cond (eqb (word % unit) 0) [] (letters "." ++ decimals 10 (word % unit) unit)

-- 256ths of a pascal, `100653.25390625 Pa`
unfoldable pub pascals : ℕ → List ℕ
pascals word = amount word 256

unfoldable pub pressure : ℕ → List ℕ
pressure word = pascals word ++ letters " Pa"

-- 1024ths of a percent, `36.8857421875 %RH`
unfoldable pub percent : ℕ → List ℕ
percent word = amount word 1024

unfoldable pub humidity : ℕ → List ℕ
humidity word = percent word ++ letters " %RH"

-- ---- missing answers, `missing 10 (channel skipped)`

unfoldable pub reason : ℕ → List ℕ
reason n =
    cond (eqb n 10) (letters " (channel skipped)")
    (cond (eqb n 11) (letters " (no temperature to compensate with)")
    (cond (eqb n 12) (letters " (a step left its type)")
    (cond (eqb n 13) (letters " (divisor zero)")
    (cond (eqb n 14) (letters " (pressure negative or above 4,294,967,295)") []))))

unfoldable pub missing : ℕ → List ℕ
missing number = filled (letters "missing #") (number ∷ []) ++ reason number
