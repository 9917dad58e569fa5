-- Worked records: the paper's two fields, a record read and written, and each refusal with its offset or the step's place.
use Prim.Native.Nat.{ℕ, zero, suc}
use mathlib.Core.List.{List, [], ◌∷◌, ◌++◌}
use mathlib.Core.Path.{refl}
use lib.ListN.{length}
use Rattle.laws.specs.Tables.{◌gives◌, AllHold}
use Rattle.visit.specs.declared.Place.TheVariants as place
use Rattle.visit.specs.Steps.{Answer, value, missing, Step, opened, slot, closed, stray}
use Rattle.visit.specs.Words.{words, words_of}
use Rattle.visit.specs.Tree.{exact, pascals, gone, reading_bytes}
use Rattle.visit.specs.Reader.{Read, read, refused, taken, by_kind, front, field_from, slot_of, walk, body_from, field_of, record_from, read_record}
use Rattle.visit.specs.Writer.{slot_fits, turn, checked, frames}
use Rattle.visit.specs.Lent.{number_at, write_steps}
use Rattle.paper.specs.Answers.{given}
use Rattle.paper.specs.Answers.{refused as unwritten}

-- humidity 0, and humidity skipped
pub fields :
    AllHold
    ((reading_bytes place.Humidity (exact 0) gives 0x06 ∷ 0x00 ∷ 0x04 ∷ 0x00 ∷ 0x00 ∷ 0x00 ∷ 0x00 ∷ [])
    ∷ (reading_bytes place.Humidity (gone 10) gives 0x07 ∷ 0x00 ∷ 0x02 ∷ 0x06 ∷ 0x0A ∷ [])
    ∷ (reading_bytes place.Pressure (pascals 100653) gives 0x05 ∷ 0x00 ∷ 0x04 ∷ 0x00 ∷ 0x01 ∷ 0x89 ∷ 0x2D ∷ [])
    ∷ [])
fields = refl

-- ---- fields by their bytes, and what holds them

abbrev time : List ℕ
time = 2 ∷ 0 ∷ 4 ∷ 0 ∷ 0 ∷ 0 ∷ 7 ∷ []

abbrev cold : List ℕ
cold = 3 ∷ 0 ∷ 4 ∷ 0xFF ∷ 0xFF ∷ 0xFF ∷ 0xFB ∷ []

abbrev heavy : List ℕ
heavy = 4 ∷ 0 ∷ 4 ∷ 0x01 ∷ 0x89 ∷ 0x2D ∷ 0x41 ∷ []

abbrev skipped : List ℕ
skipped = 7 ∷ 0 ∷ 2 ∷ 6 ∷ 10 ∷ []

abbrev slot_bytes : List ℕ
slot_bytes = time ++ (cold ++ (heavy ++ skipped))

-- a group of fewer than 256 bytes
abbrev holds : List ℕ → List ℕ
holds body = 1 ∷ 0 ∷ length body ∷ body

abbrev the_slot : Step
the_slot = slot 7 (value 0xFFFFFFFB) (value 25767233) (missing 10)

-- ---- read

abbrev with_pressure : List ℕ → List ℕ
with_pressure field = holds (time ++ (cold ++ (field ++ skipped)))

abbrev with_humidity : List ℕ → List ℕ
with_humidity field = holds (time ++ (cold ++ (heavy ++ field)))

abbrev slot_with : Answer → Answer → Read
slot_with p h = read (opened ∷ slot 7 (value 0xFFFFFFFB) p h ∷ closed ∷ [])

pub records-read :
    AllHold
    ((read_record (holds slot_bytes) gives read (opened ∷ the_slot ∷ closed ∷ []))
    ∷ (read_record (holds (holds slot_bytes ++ holds (holds slot_bytes))) gives
    read (opened ∷ opened ∷ the_slot ∷ closed ∷ opened ∷ opened ∷ the_slot ∷ closed ∷ closed ∷ closed ∷ []))
    ∷ (read_record (with_pressure (5 ∷ 0 ∷ 4 ∷ 0 ∷ 0xFF ∷ 0xFF ∷ 0xFF ∷ [])) gives slot_with (value 4294967040) (missing 10))
    ∷ (read_record (with_pressure (5 ∷ 0 ∷ 4 ∷ 0 ∷ 1 ∷ 0 ∷ 0 ∷ [])) gives slot_with (value 16777216) (missing 10))
    ∷ (read_record (with_pressure (7 ∷ 0 ∷ 2 ∷ 4 ∷ 14 ∷ [])) gives slot_with (missing 14) (missing 10))
    ∷ (read_record (with_humidity (6 ∷ 0 ∷ 4 ∷ 0 ∷ 1 ∷ 0x90 ∷ 0 ∷ [])) gives slot_with (value 25767233) (value 102400))
    ∷ (read_record (with_humidity (6 ∷ 0 ∷ 4 ∷ 0 ∷ 0 ∷ 0 ∷ 0 ∷ [])) gives slot_with (value 25767233) (value 0))
    ∷ [])
unfolding read_record record_from field_of field_from front by_kind taken walk slot_of body_from
records-read = refl

-- ---- as words, eight for each step

pub listed :
    AllHold
    ((words_of (opened ∷ the_slot ∷ closed ∷ []) gives
    1 ∷ 0 ∷ 0 ∷ 0 ∷ 0 ∷ 0 ∷ 0 ∷ 0
    ∷ 2 ∷ 7 ∷ 0 ∷ 0xFFFFFFFB ∷ 0 ∷ 25767233 ∷ 10 ∷ 0
    ∷ 3 ∷ 0 ∷ 0 ∷ 0 ∷ 0 ∷ 0 ∷ 0 ∷ 0 ∷ [])
    ∷ [])
unfolding words_of words
listed = refl

-- ---- refused, each with the offset of its field

pub cut_short :
    AllHold
    ((read_record [] gives refused 18 0)
    ∷ (read_record (1 ∷ 0 ∷ []) gives refused 18 0)
    ∷ (read_record (1 ∷ 0 ∷ 1 ∷ []) gives refused 18 0)
    ∷ (read_record (holds []) gives refused 18 3)
    ∷ (read_record (holds (time ++ (3 ∷ 0 ∷ []))) gives refused 18 10)
    ∷ (read_record (holds (2 ∷ 0 ∷ 4 ∷ 0 ∷ 0 ∷ [])) gives refused 18 3)
    -- a tag out of place whose body runs past its group
    ∷ (read_record (holds (4 ∷ 0 ∷ 9 ∷ [])) gives refused 18 3)
    -- a body that runs past its group and not past the record
    ∷ (read_record (holds (holds (2 ∷ 0 ∷ 4 ∷ []) ++ holds slot_bytes)) gives refused 18 6)
    ∷ [])
unfolding read_record record_from field_of field_from front by_kind taken walk slot_of body_from
cut_short = refl

pub out-of-place :
    AllHold
    ((read_record time gives refused 19 0)
    -- of the wrong length too, and with a value outside its limits: the tag comes first
    ∷ (read_record (holds (time ++ (4 ∷ 0 ∷ 1 ∷ 9 ∷ []))) gives refused 19 10)
    ∷ (read_record (holds (3 ∷ 0 ∷ 1 ∷ 9 ∷ [])) gives refused 19 3)
    -- after a group only groups
    ∷ (read_record (holds (holds slot_bytes ++ time)) gives refused 19 32)
    -- a byte after a slot, and one after the record: no field is read there
    ∷ (read_record (holds (slot_bytes ++ (0 ∷ []))) gives refused 19 29)
    ∷ (read_record (holds slot_bytes ++ (1 ∷ [])) gives refused 19 29)
    ∷ [])
unfolding read_record record_from field_of field_from front by_kind taken walk slot_of body_from
out-of-place = refl

pub other-faults :
    AllHold
    ((read_record (holds (2 ∷ 0 ∷ 3 ∷ 0 ∷ 0 ∷ 0 ∷ [])) gives refused 20 3)
    ∷ (read_record (holds (time ++ (7 ∷ 0 ∷ 3 ∷ 4 ∷ 9 ∷ 0 ∷ []))) gives refused 20 10)
    -- a fifth level, before anything of it is looked at
    ∷ (read_record (holds (holds (holds (holds (holds []))))) gives refused 21 12)
    ∷ (read_record (holds (holds (holds (holds slot_bytes ++ holds (holds []))))) gives refused 21 41)
    -- a channel's byte that is not its place's, and numbers that no channel has
    ∷ (read_record (holds (time ++ (7 ∷ 0 ∷ 2 ∷ 4 ∷ 10 ∷ []))) gives refused 22 10)
    ∷ (read_record (holds (time ++ (7 ∷ 0 ∷ 2 ∷ 3 ∷ 9 ∷ []))) gives refused 22 10)
    ∷ (read_record (holds (time ++ (7 ∷ 0 ∷ 2 ∷ 3 ∷ 15 ∷ []))) gives refused 22 10)
    ∷ (read_record (with_pressure (5 ∷ 0 ∷ 4 ∷ 1 ∷ 0 ∷ 0 ∷ 0 ∷ [])) gives refused 22 17)
    ∷ (read_record (with_humidity (6 ∷ 0 ∷ 4 ∷ 0 ∷ 1 ∷ 0x90 ∷ 1 ∷ [])) gives refused 22 24)
    ∷ [])
unfolding read_record record_from field_of field_from front by_kind taken walk slot_of body_from
other-faults = refl

-- ---- written

abbrev lent : ℕ → List ℕ
lent zero = []
lent (suc n) = 0xAA ∷ lent n

-- what was there past the record stays, and nothing but 0 writes
pub records-written :
    AllHold
    ((write_steps (opened ∷ opened ∷ the_slot ∷ closed ∷ closed ∷ []) (lent 34) gives (given (32 ∷ []), holds (holds slot_bytes) ++ lent 2))
    ∷ (write_steps (opened ∷ the_slot ∷ closed ∷ []) (lent 28) gives (unwritten 9, lent 28))
    ∷ (write_steps (opened ∷ the_slot ∷ closed ∷ []) (lent 29) gives (given (29 ∷ []), holds slot_bytes))
    ∷ (write_steps [] (lent 3) gives (number_at 19 0, lent 3))
    ∷ [])
unfolding write_steps checked turn slot_fits frames
records-written = refl

-- each with the step's place, or the list's length where it ends too soon
pub steps-refused :
    AllHold
    ((write_steps (the_slot ∷ []) [] gives (number_at 19 0, []))
    ∷ (write_steps (closed ∷ []) [] gives (number_at 19 0, []))
    ∷ (write_steps (opened ∷ closed ∷ []) [] gives (number_at 19 1, []))
    ∷ (write_steps (opened ∷ stray ∷ []) [] gives (number_at 19 1, []))
    ∷ (write_steps (opened ∷ the_slot ∷ []) [] gives (number_at 19 2, []))
    ∷ (write_steps (opened ∷ the_slot ∷ the_slot ∷ []) [] gives (number_at 19 2, []))
    ∷ (write_steps (opened ∷ the_slot ∷ opened ∷ []) [] gives (number_at 19 2, []))
    ∷ (write_steps (opened ∷ opened ∷ the_slot ∷ closed ∷ the_slot ∷ []) [] gives (number_at 19 4, []))
    ∷ (write_steps (opened ∷ the_slot ∷ closed ∷ opened ∷ []) [] gives (number_at 19 3, []))
    ∷ (write_steps (opened ∷ opened ∷ opened ∷ opened ∷ opened ∷ []) [] gives (number_at 21 4, []))
    ∷ (write_steps (opened ∷ slot 7 (value 0) (missing 10) (value 102401) ∷ []) [] gives (number_at 22 1, []))
    ∷ (write_steps (opened ∷ slot 7 (missing 9) (missing 10) (value 0) ∷ []) [] gives (number_at 22 1, []))
    ∷ (write_steps (opened ∷ slot 7 (value 0) (missing 15) (value 0) ∷ []) [] gives (number_at 22 1, []))
    ∷ [])
unfolding write_steps checked turn slot_fits frames
steps-refused = refl
