-- Why kept words answer as their blocks do: the words of bytes are within their bits, so they are read again as they were. Assumes nothing.
use Prim.Native.Nat.{ℕ, suc, ◌-◌, ◌≤◌, ◌<◌}
use mathlib.Core.Path.{◌≡◌, refl}
use mathlib.Core.Bool.{Bool, true, false, cond}
use mathlib.Core.List.{List}
use native.Mathlib.Omega.{arith}
use lib.Dec.{ltb, leb, eqb}
use lib.IntN.{ℤ}
use lib.ListN.{length, get_or, take}
use borrow.Author.Tests.{ltb-true, ltb-false, leb-true, le-leb, lt-ltb}
use Rattle.std.specs.Prelude.{Ok, Err}
use Rattle.paper.specs.Numbers as no
use Rattle.paper.specs.Answers.{refusal}
use Rattle.paper.specs.Registers as reg
use Rattle.calibration.specs.declared.Words.{Words}
use Rattle.calibration.specs.Calibration.{Calibration, signed, words_of, calibrated}
use Rattle.compensation.specs.Compensation.{Answer, compensated_words, compensated_with, compensated}
use Rattle.onegrish_kept.specs.Words.{is_signed_byte}
use Rattle.onegrish_laid.specs.Written.{with_words, words_into}
use Rattle.onegrish_laid.specs.RoundTrip.{InRange}
use Rattle.onegrish_laid.proofs.RoundTrip.{read_again}
use Rattle.onegrish_words.specs.Kept.{compensated_kept}
use Rattle.onegrish_words.specs.RoundTrip.{AllBytes, AsTheBlocks}

-- ---- the words of bytes

signed-byte-is : (n : ℕ) → n < 256 → is_signed_byte (signed 0x80 n) ≡ true
signed-byte-is n h = go (ltb n 0x80) refl
  where
    go : (b : Bool) → ltb n 0x80 ≡ b → is_signed_byte (signed 0x80 n) ≡ true
    go true e = let k = ltb-true n 0x80 e in rw (e, le-leb n 127 (omega arith))
    go false e = let k = ltb-false n 0x80 e in rw (e, lt-ltb n 256 h, le-leb (256 - suc n) 127 (omega arith))

in-range : (one two : List ℕ) → AllBytes one → AllBytes two → InRange (words_of one two)
in-range one two a b =
    let low = a 0 in
    let high = a 1 in
    let p-low = a 6 in
    let p-high = a 7 in
    record { t1 = omega arith; p1 = omega arith; h1 = a 25; h3 = b 2; h6 = signed-byte-is (get_or two 6 0) (b 6) }

-- ---- the two calls

twice : (b : Bool) (x y : Answer) → cond b (cond b x y) y ≡ cond b x y
twice true x y = refl
twice false x y = refl

module _ (words : Words) (range : InRange words) (lent : List ℤ) (bytes : List ℕ) (t p h : ℕ) where
  abbrev As : Calibration → Type 0
  As known = (words_into known lent).0 ≡ no.done → compensated_kept (take 18 (words_into known lent).1) bytes t p h ≡ compensated_with known bytes t p h

  kept-known : 18 ≤ length lent → compensated_kept (take 18 (with_words words lent)) bytes t p h ≡ compensated_with (Ok words) bytes t p h
  unfolding compensated_kept
  kept-known room =
      rw (read_again words range lent room)
      (twice (eqb (length bytes) reg.data_length) (compensated_words words bytes t p h) (Err (refusal no.wrong_length)))

  with-room : (b : Bool) → leb 18 (length lent) ≡ b → As (Ok words)
  with-room true e done = rw e (kept-known (leb-true 18 (length lent) e))
  with-room false e done = absurd (too_short (rw e at done))
    where
      too_short : no.buffer_too_short ≡ no.done → ⊥
      too_short q = omega arith

  by_lengths : (a b : Bool) → As (cond a (cond b (Ok words) (Err (refusal no.wrong_length))) (Err (refusal no.wrong_length)))
  by_lengths true true done = with-room (leb 18 (length lent)) refl done
  by_lengths true false done = absurd (omega arith)
  by_lengths false b done = absurd (omega arith)

pub as-the-blocks : AsTheBlocks
unfolding calibrated compensated
as-the-blocks one two a b lent done bytes t p h =
    by_lengths (words_of one two) (in-range one two a b) lent bytes t p h (eqb (length one) reg.block_one) (eqb (length two) reg.block_two) done
