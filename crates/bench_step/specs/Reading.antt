-- The step that a word of a line stands for: `(`, `)`, or TIME:T:P:H, each channel a decimal or `!N` for a missing one; and a stray step where it stands for none.
use Rattle.std.specs.Prelude.{ℕ, ◌-◌, ◌%◌, cond, List, [], ◌∷◌, eqb, leb, length, get_or, drop, Option, Some, None, Ok}
use Rattle.visit.specs.Steps.{Answer, slot}
use Rattle.visit.specs.Steps.{missing as gone}
use Rattle.visit.specs.declared.Step.{Step}
use Rattle.visit.specs.declared.Step.TheVariants.{Open, Close, Stray}
use Rattle.bench_numbers.specs.Reading.{number_of}

-- ---- the parts of a text

-- what stands before the first mark: all where there is none
unfoldable pub before : ℕ → List ℕ → List ℕ
before mark [] = []
before mark (byte ∷ rest) = cond (eqb byte mark) [] (byte ∷ before mark rest)

-- what stands after it: nothing where there is none
unfoldable pub after : ℕ → List ℕ → List ℕ
after mark [] = []
after mark (byte ∷ rest) = cond (eqb byte mark) rest (after mark rest)

-- ---- channels: none where a text stands for no channel, as where its number is above the largest

abbrev pub largest : ℕ
largest = 0xFFFFFFFF

-- 0 would mean a value in the list of steps; every number outside 10 to 14 is answered alike
abbrev pub missing : ℕ → Option Answer
missing n = cond (eqb n 0) (Some (gone 1)) (cond (leb n largest) (Some (gone n)) None)

abbrev pub value : ℕ → ℕ → Option Answer
value n most = cond (leb n most) (Some (Ok n)) None

-- two's complement
abbrev pub below : ℕ → Option Answer
below n = cond (leb n 0x80000000) (Some (Ok ((0x100000000 - n) % 0x100000000))) None

-- `!` stands before a missing channel's number, and `-` before a temperature below zero
abbrev pub amount : List ℕ → Option Answer
amount text = cond (eqb (get_or text 0 0) 33) (missing (number_of (drop 1 text))) (value (number_of text) largest)

abbrev pub temperature : List ℕ → Option Answer
temperature text =
    cond (eqb (get_or text 0 0) 33) (missing (number_of (drop 1 text)))
    (cond (eqb (get_or text 0 0) 45) (below (number_of (drop 1 text)))
    (value (number_of text) 0x7FFFFFFF))

-- ---- steps

-- a channel and then the rest of its slot; without it there is none
abbrev pub with_channel : Option Answer → (Answer → Step) → Step
with_channel None rest = Stray
with_channel (Some a) rest = rest a

unfoldable pub slot_of : ℕ → Option Answer → Option Answer → Option Answer → Step
slot_of time t p h =
    with_channel t
    (λ t. with_channel p
    (λ p. with_channel h
    (λ h. cond (leb time largest) (slot time t p h) Stray)))

-- four parts with colons between them: of fewer the last ones are empty, and of more the last has a colon, so that neither is a slot
unfoldable pub slot_read : List ℕ → Step
slot_read word =
    let t = after 58 word in
    let p = after 58 t in
    let h = after 58 p in
    slot_of (number_of (before 58 word)) (temperature (before 58 t)) (amount (before 58 p)) (amount h)

abbrev pub bracket : ℕ → Step
bracket character = cond (eqb character 40) Open (cond (eqb character 41) Close Stray)

unfoldable pub step : List ℕ → Step
step word = cond (eqb (length word) 1) (bracket (get_or word 0 0)) (slot_read word)
