-- The word of a step: `(`, `)`, or TIME:T:P:H, each channel its decimal, a temperature with its sign, or `!N` where it is missing.
use Rattle.std.specs.Prelude.{ℕ, ◌-◌, cond, List, [], ◌∷◌, ◌++◌, ltb, Ok, Err}
use Rattle.visit.specs.Steps.{Answer}
use Rattle.visit.specs.declared.Slot.{Slot as SlotOf}
use Rattle.visit.specs.declared.Step.{Step}
use Rattle.visit.specs.declared.Step.TheVariants.{Open, Slot, Close, Stray}
use Rattle.bench_page.specs.Page.{letters}
use Rattle.bench_page.specs.Digits as spelt
use Rattle.bench_row.specs.Row.{filled}

-- a colon stands before each channel
abbrev pub amount : Answer → List ℕ
amount (Ok v) = filled (letters ":#") (v ∷ [])
amount (Err a) = filled (letters ":!#") (a.number ∷ [])

-- by the two's complement
abbrev pub signed : ℕ → List ℕ
signed word = cond (ltb word 0x80000000) (filled (letters ":#") (word ∷ [])) (filled (letters ":-#") ((0x100000000 - word) ∷ []))

abbrev pub temperature : Answer → List ℕ
temperature (Ok v) = signed v
temperature (Err a) = filled (letters ":!#") (a.number ∷ [])

unfoldable pub slot : SlotOf → List ℕ
slot s = spelt.decimal s.time ++ (temperature s.temperature ++ (amount s.pressure ++ amount s.humidity))

-- no record gives a stray step
unfoldable pub step : Step → List ℕ
step Open = letters "("
step (Slot s) = slot s
step Close = letters ")"
step Stray = letters "?"
