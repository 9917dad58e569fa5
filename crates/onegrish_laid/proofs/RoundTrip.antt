-- Why written words are read again as they were: each of the 18 places holds its word, and a word keeps its bits. Assumes nothing.
use Prim.Native.Nat.{ℕ, ◌+◌, ◌≤◌, ◌<◌}
use mathlib.Core.Path.{◌≡◌, refl, ap, ◌∙◌}
use mathlib.Core.Bool.{Bool, true, false}
use mathlib.Core.List.{List}
use native.Mathlib.Omega.{arith}
use lib.Dec.{ltb}
use lib.IntN.{ℤ, pos}
use lib.ListN.{length, take, length-take}
use borrow.Author.Tests.{lt-ltb}
use Rattle.calibration.specs.declared.TemperatureWords.{TemperatureWords}
use Rattle.calibration.specs.declared.PressureWords.{PressureWords}
use Rattle.calibration.specs.declared.HumidityWords.{HumidityWords}
use Rattle.calibration.specs.declared.Words.{Words}
use Rattle.std.specs.Prelude.{Ok}
use Rattle.calibration.specs.Calibration.{signed}
use Rattle.onegrish_kept.specs.Words as kept
use Rattle.onegrish_kept.proofs.Bytes.{byte-is}
use Rattle.onegrish_kept.specs.Words.{word_at, taken}
use Rattle.onegrish_laid.specs.Written as written
use Rattle.onegrish_laid.specs.RoundTrip.{InRange, ReadAgain}
use Rattle.onegrish_laid.proofs.Laid.{length-laid, before-laid, at-laid, at_front}

-- ---- a word with and without its sign

unsigned_back : (n : ℕ) → n < 0x10000 → kept.unsigned (signed 0x8000 n) ≡ n
unsigned_back n h = go (ltb n 0x8000) refl
  where
    go : (b : Bool) → ltb n 0x8000 ≡ b → kept.unsigned (signed 0x8000 n) ≡ n
    go true e = rw e
    go false e = rw (e, lt-ltb n 0x10000 h) (omega arith)

-- ---- what a list reads as, by its places

temperature-by : (list : List ℤ) (w : TemperatureWords) → w.t1 < 0x10000 → ((k : ℕ) → k < 3 → word_at list k ≡ word_at (written.temperature_list w) k) → kept.kept_temperature list ≡ w
temperature-by list w h at = rw (at 0 (omega arith), at 1 (omega arith), at 2 (omega arith), unsigned_back w.t1 h)

pressure-by : (list : List ℤ) (w : PressureWords) → w.p1 < 0x10000 → ((k : ℕ) → k < 9 → word_at list (3 + k) ≡ word_at (written.pressure_list w) k) → kept.kept_pressure list ≡ w
pressure-by list w h at =
    rw (
      at 0 (omega arith),
      at 1 (omega arith),
      at 2 (omega arith),
      at 3 (omega arith),
      at 4 (omega arith),
      at 5 (omega arith),
      at 6 (omega arith),
      at 7 (omega arith),
      at 8 (omega arith),
      unsigned_back w.p1 h,
    )

humidity-by : (list : List ℤ) (w : HumidityWords) → ((k : ℕ) → k < 6 → word_at list (12 + k) ≡ word_at (written.humidity_list w) k) → kept.kept_humidity list ≡ w
humidity-by list w at = rw (at 0 (omega arith), at 1 (omega arith), at 2 (omega arith), at 3 (omega arith), at 4 (omega arith), at 5 (omega arith))

words-by :
    (list : List ℤ) (w : HumidityWords) → w.h1 < 256 → w.h3 < 256 → kept.is_signed_byte w.h6 ≡ true →
    ((k : ℕ) → k < 6 → word_at list (12 + k) ≡ word_at (written.humidity_list w) k) →
    kept.are_words list ≡ true
words-by list w a b c at = rw (at 0 (omega arith), at 2 (omega arith), at 5 (omega arith), byte-is w.h1 a, byte-is w.h3 b, c)

taken-by :
    (list : List ℤ) (words : Words) → length list ≡ 18 → kept.are_words list ≡ true →
    kept.kept_temperature list ≡ words.temperature → kept.kept_pressure list ≡ words.pressure → kept.kept_humidity list ≡ words.humidity →
    taken list ≡ Ok words
unfolding taken
taken-by list words size bytes t p h = rw (size, bytes, t, p, h)

-- ---- the places of written words

module _ (words : Words) (range : InRange words) (lent : List ℤ) (room : 18 ≤ length lent) where
  abbrev zero_word : ℤ
  zero_word = pos 0

  abbrev with-temperature : List ℤ
  with-temperature = written.laid 0 (written.temperature_list words.temperature) lent

  abbrev with-pressure : List ℤ
  with-pressure = written.laid 3 (written.pressure_list words.pressure) with-temperature

  abbrev all : List ℤ
  all = written.laid 12 (written.humidity_list words.humidity) with-pressure

  size-temperature : length with-temperature ≡ length lent
  size-temperature = length-laid zero_word 0 (written.temperature_list words.temperature) lent

  size-pressure : length with-pressure ≡ length lent
  size-pressure = length-laid zero_word 3 (written.pressure_list words.pressure) with-temperature ∙ size-temperature

  size-all : length all ≡ length lent
  size-all = length-laid zero_word 12 (written.humidity_list words.humidity) with-pressure ∙ size-pressure

  t-at : (k : ℕ) → k < 3 → word_at (take 18 all) k ≡ word_at (written.temperature_list words.temperature) k
  t-at k h =
      at_front zero_word 18 all k (omega arith)
      ∙ before-laid zero_word 12 (written.humidity_list words.humidity) with-pressure k (omega arith)
      ∙ before-laid zero_word 3 (written.pressure_list words.pressure) with-temperature k h
      ∙ ap (λ (n : ℕ). word_at with-temperature n) (omega arith)
      ∙ at-laid zero_word 0 (written.temperature_list words.temperature) lent k h (omega arith)

  p-at : (k : ℕ) → k < 9 → word_at (take 18 all) (3 + k) ≡ word_at (written.pressure_list words.pressure) k
  p-at k h =
      let e = size-temperature in
      at_front zero_word 18 all (3 + k) (omega arith)
      ∙ before-laid zero_word 12 (written.humidity_list words.humidity) with-pressure (3 + k) (omega arith)
      ∙ at-laid zero_word 3 (written.pressure_list words.pressure) with-temperature k h (omega (arith, e))

  h-at : (k : ℕ) → k < 6 → word_at (take 18 all) (12 + k) ≡ word_at (written.humidity_list words.humidity) k
  h-at k h =
      let e = size-pressure in
      at_front zero_word 18 all (12 + k) (omega arith)
      ∙ at-laid zero_word 12 (written.humidity_list words.humidity) with-pressure k h (omega (arith, e))

  taken_back : taken (take 18 all) ≡ Ok words
  taken_back =
      let w = words.humidity in
      taken-by (take 18 all) words
      (length-take 18 all ∙ rw size-all (omega arith))
      (words-by (take 18 all) w range.h1 range.h3 range.h6 h-at)
      (temperature-by (take 18 all) words.temperature range.t1 t-at)
      (pressure-by (take 18 all) words.pressure range.p1 p-at)
      (humidity-by (take 18 all) w h-at)

pub read_again : ReadAgain
read_again = taken_back
