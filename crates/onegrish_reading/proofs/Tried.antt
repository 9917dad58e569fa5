-- What it means that the plain road is tried: the reading is answered with 0, and no channel is skipped. Assumes nothing.
use Prim.Native.Nat.{ℕ, ◌≤◌}
use mathlib.Core.Path.{◌≡◌}
use mathlib.Core.Bool.{true, ◌&&◌}
use mathlib.Core.List.{List}
use lib.Dec.{leb, eqb}
use lib.IntN.{ℤ}
use lib.ListN.{length}
use borrow.Author.Tests.{leb-true, eqb-true, le-leb}
use Rattle.std.specs.Prelude.{Ok}
use Rattle.laws.specs.Tests.{both}
use Rattle.paper.specs.Registers as reg
use Rattle.calibration.specs.declared.Words.{Words}
use Rattle.data.specs.Counts.{counts_of}
use Rattle.compensation.specs.Compensation.{reading, compensated_words, compensated_with}
use Rattle.onegrish_channels.specs.Channels.{channels_into, reading_into}
use Rattle.plain_reading.specs.Plain.{are_enabled}
use Rattle.plain_reading.proofs.Taken.{Enabled, enabled}
use Rattle.onegrish_reading.specs.Plain.{is_tried, done_with}

pub record Tried (bytes t p h numbers values : ℕ) : Type 0 where
  pub eight : bytes ≡ reg.data_length
  pub on : Enabled t p h
  pub three : 3 ≤ numbers
  pub four : 4 ≤ values

pub tried-is : (bytes t p h numbers values : ℕ) → is_tried bytes t p h numbers values ≡ true → Tried bytes t p h numbers values
tried-is bytes t p h numbers values e =
    let a = both (eqb bytes reg.data_length) (are_enabled t p h && (leb 3 numbers && leb 4 values)) e in
    let b = both (are_enabled t p h) (leb 3 numbers && leb 4 values) a.1 in
    let room = both (leb 3 numbers) (leb 4 values) b.1 in
    record {
      eight = eqb-true bytes reg.data_length a.0;
      on = enabled t p h b.0;
      three = leb-true 3 numbers room.0;
      four = leb-true 4 values room.1;
    }

pub whole_is :
    (words : Words) (bytes : List ℕ) (t p h : ℕ) (numbers : List ℕ) (values : List ℤ) → Tried (length bytes) t p h (length numbers) (length values) →
    reading_into (compensated_with (Ok words) bytes t p h) numbers values ≡ done_with (channels_into (reading words (counts_of bytes) 1 1 1) numbers values)
unfolding compensated_words
whole_is words bytes t p h numbers values r =
    let on = r.on in
    rw (r.eight, on.codes, on.t-on, on.p-on, on.h-on, le-leb 3 (length numbers) r.three, le-leb 4 (length values) r.four)
