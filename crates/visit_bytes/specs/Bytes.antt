-- The bytes that a step adds to a record, and how many they are. An opened group adds its header, which says how many bytes the group holds.
use Rattle.std.specs.Prelude.{ℕ, ◌+◌, ◌/◌, ◌%◌, List, [], ◌∷◌, ◌++◌, Ok, Err}
use Rattle.visit.specs.declared.Slot.{Slot}
use Rattle.visit.specs.declared.Step.{Step}
use Rattle.visit.specs.declared.Step.TheVariants.{Open as opened, Slot as slotted, Close as closed, Stray as stray}
use Rattle.visit.specs.Steps.{Answer}
use Rattle.visit.specs.Tags as tag
use Rattle.visit.specs.Tree.{four_bytes}

-- ---- bytes

abbrev pub header_bytes : ℕ → List ℕ
header_bytes held = tag.group ∷ held / 256 % 256 ∷ held % 256 ∷ []

abbrev pub value_bytes : ℕ → ℕ → List ℕ
value_bytes tagged v = tagged ∷ 0 ∷ 4 ∷ four_bytes v

abbrev pub missing_bytes : ℕ → ℕ → List ℕ
missing_bytes tagged n = tag.missing ∷ 0 ∷ 2 ∷ tagged ∷ n % 256 ∷ []

abbrev pub answer_bytes : ℕ → Answer → List ℕ
answer_bytes tagged (Ok v) = value_bytes tagged v
answer_bytes tagged (Err a) = missing_bytes tagged a.number

unfoldable pub slot_bytes : Slot → List ℕ
slot_bytes s =
    value_bytes tag.time s.time
    ++ (answer_bytes tag.temperature s.temperature ++ (answer_bytes tag.pressure s.pressure ++ answer_bytes tag.humidity s.humidity))

-- a close adds none
unfoldable pub lead : Step → ℕ → List ℕ
lead opened held = header_bytes held
lead (slotted s) held = slot_bytes s
lead closed held = []
lead stray held = []

-- ---- how many

abbrev pub answer_size : Answer → ℕ
answer_size (Ok v) = 7
answer_size (Err a) = 5

abbrev pub slot_size : Slot → ℕ
slot_size s = 7 + answer_size s.temperature + answer_size s.pressure + answer_size s.humidity

abbrev pub size : Step → ℕ
size opened = 3
size (slotted s) = slot_size s
size closed = 0
size stray = 0
