-- The same of a day of records: a place's record says the single call's answer, and depends on that place's reading alone (proofs/Records.antt).
use Rattle.std.specs.Prelude.{ℕ, ◌<◌, ◌≡◌, List, length, get_or}
use Rattle.day_row.specs.Row.{answer_of}
use Rattle.day_records.specs.declared.Logged.{Logged}
use Rattle.day_records.specs.declared.Told.{Told}
use Rattle.day_records.specs.Records.{row_of}
use Rattle.day_records.specs.Forms.{Call, Fits, single}

abbrev pub Says : Call → Type 0
Says call =
    (one two : List ℕ) (readings : List Logged) (answers : List Told) (k : ℕ) (x : Logged) (y : Told) →
    Fits one two readings answers → k < length readings →
    answer_of (row_of (get_or (call one two readings answers).1 k y)) ≡ single one two (get_or readings k x)

abbrev pub AloneInRecords : Call → Type 0
AloneInRecords call =
    (one two : List ℕ) (r s : List Logged) (a b : List Told) (j k : ℕ) (x : Logged) (y : Told) →
    Fits one two r a → Fits one two s b → j < length r → k < length s →
    get_or r j x ≡ get_or s k x →
    get_or (call one two r a).1 j y ≡ get_or (call one two s b).1 k y
