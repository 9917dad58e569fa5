-- Words that were written are read again as they were: a statement (proofs/RoundTrip.antt).
use Rattle.std.specs.Prelude.{◌≤◌, ◌<◌, ◌≡◌, true, List, ℤ, length, take, Ok}
use Rattle.calibration.specs.declared.Words.{Words}
use Rattle.onegrish_kept.specs.Words.{is_signed_byte, taken}
use Rattle.onegrish_laid.specs.Written.{with_words}

-- T1 and P1 are of 16 bits, H1 and H3 of 8, and so is H6 with its sign
pub record InRange (words : Words) : Type 0 where
  pub t1 : words.temperature.t1 < 0x10000
  pub p1 : words.pressure.p1 < 0x10000
  pub h1 : words.humidity.h1 < 256
  pub h3 : words.humidity.h3 < 256
  pub h6 : is_signed_byte words.humidity.h6 ≡ true

-- the first 18 places give the words again
abbrev pub ReadAgain : Type 0
ReadAgain = (words : Words) → InRange words → (lent : List ℤ) → 18 ≤ length lent → taken (take 18 (with_words words lent)) ≡ Ok words
