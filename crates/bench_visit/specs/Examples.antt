-- Lines answered, by the definitions: a record written and read, and what is refused.
use Rattle.std.specs.Prelude.{ℕ, List, [], ◌∷◌, ◌≡◌, refl, replicate}
use Rattle.bench_page.specs.declared.Page.{Page}
use Rattle.bench_page.specs.Page as page
use Rattle.bench_page.specs.Page.{letters}
use Rattle.bench_page.specs.Digits as spelt
use Rattle.bench_row.specs.Row as row
use Rattle.bench_lent.specs.Lent as lent
use Rattle.bench_numbers.specs.Words as text
use Rattle.bench_numbers.specs.Reading as numbers
use Rattle.bench_step.specs.Reading as reading
use Rattle.bench_step.specs.Showing as showing
use Rattle.visit.specs.Words as words
use Rattle.visit.specs.Reader as reader
use Rattle.visit.specs.Writer as writer
use Rattle.visit.specs.Lent as visit
use Rattle.visit_step.specs.Places as places
use Rattle.bench_visit.specs.Line as line
use Rattle.bench_visit.specs.Shown as shown
use Rattle.bench_visit.specs.Visits as visits

-- a group that holds one with a slot whose humidity is missing
abbrev sent : List ℕ
sent =
    0x01 ∷ 0x00 ∷ 0x1D ∷ 0x01 ∷ 0x00 ∷ 0x1A ∷ 0x02 ∷ 0x00 ∷ 0x04 ∷ 0x00 ∷ 0x00 ∷ 0x00 ∷ 0x07 ∷ 0x03 ∷ 0x00 ∷ 0x04 ∷ 0xFF ∷ 0xFF ∷ 0xFF ∷ 0xFB
    ∷ 0x04 ∷ 0x00 ∷ 0x04 ∷ 0x01 ∷ 0x89 ∷ 0x2D ∷ 0x41 ∷ 0x07 ∷ 0x00 ∷ 0x02 ∷ 0x06 ∷ 0x0A ∷ []

pub record Read : Type 0 where
  pub whole : visits.read (visit.read_into sent (visits.lent_steps 5)) ≡ letters "0 n=5 steps=( ( 7:-5:25767233:!10 ) )"
  pub too_short : visits.read (visit.read_into sent (visits.lent_steps 4)) ≡ letters "9"
  pub cut_short : visits.read (visit.read_into (1 ∷ 0 ∷ 0 ∷ []) (visits.lent_steps 9)) ≡ letters "18 at=3"

pub records-read : Read
unfolding visits.read visits.lent_steps visits.zeros lent.within visit.read_into reader.read_record reader.record_from reader.field_of reader.field_from reader.body_from
    reader.walk reader.slot_of reader.front reader.by_kind reader.taken words.words words.words_of words.step_from places.step_at shown.steps showing.step showing.slot
    row.filled_from spelt.decimal spelt.spelled
records-read = record { whole = refl; too_short = refl; cut_short = refl }

-- a line answered on a page of so many bytes: what it asks, after the place where its length ends, with a buffer of that length
abbrev answered : Page → ℕ → List ℕ → ℕ → ℕ → page.Held
answered lent bytes asked from room =
    page.held (visits.write asked from room (record { out = record lent.out { now = replicate bytes 0 }; at = 0 }))

-- on whatever page is lent, so many bytes of it
pub record Written (lent : Page) : Type 0 where
  pub whole :
      answered lent 92 (letters "visit write 40 ( ( 7:-5:25767233:!10 ) )") 14 40
      ≡ (letters "0 n=32 buf=01001D01001A02000400000007030004FFFFFFFB04000401892D41070002060AAAAAAAAAAAAAAAAA\n", 92)
  pub no_steps : answered lent 31 (letters "visit write 9") 13 9 ≡ (letters "19 at=0 buf=AAAAAAAAAAAAAAAAAA\n", 31)
  pub too_short : answered lent 8 (letters "visit write 0 ( 7:0:0:0 )") 13 0 ≡ (letters "9 buf=-\n", 8)
  pub no_number : answered lent 15 (letters "visit write 1 ( 7:0:0:!0 )") 13 1 ≡ (letters "22 at=1 buf=AA\n", 15)
  pub no_step : answered lent 15 (letters "visit write 1 ( x )") 13 1 ≡ (letters "? not a number\n", 15)
  pub no-characters : answered lent 15 (letters "visit write 1 ( ") 13 1 ≡ (letters "? not a number\n", 15)

pub steps-written : (lent : Page) → Written lent
unfolding visits.write visits.written line.parted line.laid reading.step reading.slot_read reading.slot_of reading.before reading.after numbers.number_of numbers.decimal
    numbers.read_on numbers.digit_value numbers.letter_value text.word words.words words.step_from words.steps_first visit.write_into visit.write_steps writer.checked writer.turn
    writer.slot_fits writer.frames lent.within lent.filled lent.lent_of row.filled_from row.buffer spelt.decimal spelt.spelled spelt.shown spelt.pairs spelt.pair spelt.hex_digit
    page.written_byte page.written
steps-written lent = record { whole = refl; no_steps = refl; too_short = refl; no_number = refl; no_step = refl; no-characters = refl }
