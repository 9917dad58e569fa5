-- Steps read and shown, by the definitions.
use Rattle.std.specs.Prelude.{[], ◌≡◌, refl}
use Rattle.bench_page.specs.Page.{letters}
use Rattle.bench_page.specs.Digits as spelt
use Rattle.bench_row.specs.Row.{filled_from}
use Rattle.bench_numbers.specs.Words.{word}
use Rattle.bench_numbers.specs.Reading as numbers
use Rattle.visit.specs.Steps.{value, missing, slot}
use Rattle.visit.specs.declared.Step.TheVariants.{Open, Close, Stray}
use Rattle.bench_step.specs.Reading as reading
use Rattle.bench_step.specs.Showing as showing

pub record Words : Type 0 where
  pub group : reading.step (letters "(") ≡ Open
  pub group-end : reading.step (letters ")") ≡ Close
  pub dry : reading.step (letters "7:-5:25767233:!10") ≡ slot 7 (value 0xFFFFFFFB) (value 25767233) (missing 10)
  pub coldest : reading.step (letters "4294967295:-2147483648:0:0") ≡ slot 0xFFFFFFFF (value 0x80000000) (value 0) (value 0)
  pub warmest : reading.step (letters "0:2147483647:4294967295:0102400") ≡ slot 0 (value 0x7FFFFFFF) (value 0xFFFFFFFF) (value 102400)
  pub minus-zero : reading.step (letters "0:-0:0:!14") ≡ slot 0 (value 0) (value 0) (missing 14)
  -- a number that no missing answer has: the writer refuses it
  pub missing-none : reading.step (letters "0:!0:!15:!4294967295") ≡ slot 0 (missing 1) (missing 15) (missing 0xFFFFFFFF)
  -- words that are none
  pub no-characters : reading.step [] ≡ Stray
  pub two-brackets : reading.step (letters "((") ≡ Stray
  pub digit : reading.step (letters "7") ≡ Stray
  pub three-parts : reading.step (letters "7:0:0") ≡ Stray
  pub five-parts : reading.step (letters "7:0:0:0:") ≡ Stray
  pub empty-part : reading.step (letters "7::0:0") ≡ Stray
  pub too-cold : reading.step (letters "7:-2147483649:0:0") ≡ Stray
  pub too-warm : reading.step (letters "7:2147483648:0:0") ≡ Stray
  pub minus-pressure : reading.step (letters "7:0:-1:0") ≡ Stray
  pub missing-time : reading.step (letters "!7:0:0:0") ≡ Stray
  pub no_number : reading.step (letters "7:!:0:0") ≡ Stray
  pub minus-missing : reading.step (letters "7:!-10:0:0") ≡ Stray
  pub above-largest : reading.step (letters "7:0:0:!4294967296") ≡ Stray

pub words-read : Words
unfolding reading.step reading.slot_read reading.slot_of reading.before reading.after numbers.number_of numbers.decimal numbers.read_on numbers.digit_value
    numbers.letter_value word
words-read =
    record {
      group = refl;
      group-end = refl;
      dry = refl;
      coldest = refl;
      warmest = refl;
      minus-zero = refl;
      missing-none = refl;
      no-characters = refl;
      two-brackets = refl;
      digit = refl;
      three-parts = refl;
      five-parts = refl;
      empty-part = refl;
      too-cold = refl;
      too-warm = refl;
      minus-pressure = refl;
      missing-time = refl;
      no_number = refl;
      minus-missing = refl;
      above-largest = refl;
    }

pub dry-shown : showing.step (slot 7 (value 0xFFFFFFFB) (value 25767233) (missing 10)) ≡ letters "7:-5:25767233:!10"
unfolding showing.step showing.slot filled_from spelt.decimal spelt.spelled
dry-shown = refl

pub coldest-shown : showing.step (slot 0xFFFFFFFF (value 0x80000000) (missing 12) (value 102400)) ≡ letters "4294967295:-2147483648:!12:102400"
unfolding showing.step showing.slot filled_from spelt.decimal spelt.spelled
coldest-shown = refl
