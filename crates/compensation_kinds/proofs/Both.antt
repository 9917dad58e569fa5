-- Why the statements of Both.antt hold. Assumes nothing.
use Prim.Native.Nat.{ℕ, ◌<◌}
use native.Mathlib.Omega.{arith}
use mathlib.Core.Path.{◌≡◌, refl, sym, ap, ◌∙◌}
use mathlib.Core.Bool.{Bool, true, false, cond, ◌&&◌}
use mathlib.Core.List.{List, []}
use lib.Dec.{eqb}
use lib.ListN.{length, get_or, take, length-take}
use lib.Seq.{get_or-take}
use Rattle.std.specs.Prelude.{Ok, Err}
use Rattle.laws.specs.Choices.{pick}
use Rattle.laws.specs.Tests.{never}
use Rattle.paper.specs.Numbers as no
use Rattle.paper.specs.Registers as reg
use Rattle.kinds.specs.declared.Kind.{Kind}
use Rattle.kinds.specs.declared.Kind.TheVariants.{Bme280, Bmp280}
use Rattle.data.specs.Counts.{counts_of}
use Rattle.calibration.specs.Calibration.{words_of, calibrated}
use Rattle.paper.specs.Answers.{missing, refusal}
use Rattle.paper.specs.declared.Refusal.{Refusal}
use Rattle.compensation.specs.declared.Reading.{Reading}
use Rattle.compensation.specs.Compensation.{Answer, compensated_words, compensated_with, compensated}
use Rattle.compensation_kinds.specs.Kinds.{reading_by, are_lengths, compensated_by}
use Rattle.compensation_kinds.specs.Both as stated
use Rattle.compensation_kinds.proofs.Tests.{lengths-are, are-lengths, codes-are, are-codes}

-- ---- the BME280's call

module _ (one two bytes : List ℕ) (t p h : ℕ) where
  by_blocks :
      (a b : Bool) →
      cond (a && (b && eqb (length bytes) reg.data_length))
      (cond (reg.are_codes t p h) (Ok (reading_by Bme280 (words_of one two) (counts_of bytes) t p h)) (Err (refusal no.out_of_range)))
      (Err (refusal no.wrong_length)) ≡
      compensated_with (cond a (cond b (Ok (words_of one two)) (Err (refusal no.wrong_length))) (Err (refusal no.wrong_length))) bytes t p h
  unfolding compensated_words
  by_blocks true true = refl
  by_blocks true false = refl
  by_blocks false b = refl

pub as_before : stated.AsBefore
unfolding compensated_by compensated calibrated
as_before one two bytes t p h = by_blocks one two bytes t p h (eqb (length one) reg.block_one) (eqb (length two) reg.block_two)

-- ---- the same two channels

pub same-readings : stated.SameReadings
same-readings a b words counts t p h k = record { temperature = refl; pressure = refl }

-- the counts of temperature and pressure stand in the first six bytes
module _ (bytes : List ℕ) where
  at : (i : ℕ) → i < 6 → get_or (take 6 bytes) i 0 ≡ get_or bytes i 0
  at i = get_or-take 6 bytes i 0

  temperature-in : (counts_of (take 6 bytes)).temperature ≡ (counts_of bytes).temperature
  temperature-in = rw (at 3 (omega arith), at 4 (omega arith), at 5 (omega arith))

  pressure-in : (counts_of (take 6 bytes)).pressure ≡ (counts_of bytes).pressure
  pressure-in = rw (at 0 (omega arith), at 1 (omega arith), at 2 (omega arith))

module _ (one two bytes : List ℕ) (t p h : ℕ) where
  -- the tests that are left are of block one's length and of the codes
  by_tests :
      (a b : Bool) →
      cond (a && true) (cond b (Ok (reading_by Bmp280 (words_of one []) (counts_of (take 6 bytes)) t p h)) (Err (refusal no.out_of_range))) (Err (refusal no.wrong_length)) ≡
      stated.without_humidity
      (cond (a && true) (cond b (Ok (reading_by Bme280 (words_of one two) (counts_of bytes) t p h)) (Err (refusal no.out_of_range))) (Err (refusal no.wrong_length)))
  by_tests true true = rw (temperature-in bytes, pressure-in bytes)
  by_tests true false = refl
  by_tests false b = refl

pub same-calls : stated.SameCalls
unfolding compensated_by
same-calls one two bytes t p h seven eight =
    let six : length (take 6 bytes) ≡ 6 = simp length-take (omega arith) in
    rw (six, seven, eight) (by_tests one two bytes t p h (eqb (length one) reg.block_one) (reg.are_codes t p h))

-- ---- what a call is answered

two-numbers : {a : Answer} {m n : ℕ} → a ≡ Err (refusal m) → a ≡ Err (refusal n) → m ≡ n
two-numbers {a} {m} {n} d e = let same : refusal m ≡ refusal n = cc in ap (λ (r : Refusal). r.number) same

not-both : {a : Answer} {r : Reading} {n : ℕ} → a ≡ Ok r → a ≡ Err (refusal n) → ⊥
not-both d e = let z : ◌≡◌ {A = ℕ} 0 1 = cc in omega arith

not-seven : ◌≡◌ {A = ℕ} no.wrong_length no.out_of_range → ⊥
not-seven e = omega arith

module _ (kind : Kind) (one two bytes : List ℕ) (t p h : ℕ) where
  abbrev answer : Answer
  answer = compensated_by kind one two bytes t p h

  abbrev fit : Bool
  fit = are_lengths kind (length one) (length two) (length bytes)

  abbrev fitting : Type 0
  fitting = stated.Lengths kind (length one) (length two) (length bytes)

  wrong : fit ≡ false → answer ≡ Err (refusal no.wrong_length)
  unfolding compensated_by
  wrong e = rw e

  above : fit ≡ true → reg.are_codes t p h ≡ false → answer ≡ Err (refusal no.out_of_range)
  unfolding compensated_by
  above e f = rw (e, f)

  right : fit ≡ true → reg.are_codes t p h ≡ true → answer ≡ Ok (reading_by kind (words_of one two) (counts_of bytes) t p h)
  unfolding compensated_by
  right e f = rw (e, f)

  fits : fit ≡ true → fitting
  fits e = lengths-are kind (length one) (length two) (length bytes) e

  unfit : fit ≡ false → fitting → ⊥
  unfit e k = never (sym e ∙ are-lengths kind (length one) (length two) (length bytes) k)

  no-codes : reg.are_codes t p h ≡ false → stated.Codes t p h → ⊥
  no-codes e k = never (sym e ∙ are-codes t p h k)

  of-tests : (a : Bool) → fit ≡ a → (b : Bool) → reg.are_codes t p h ≡ b → stated.Decided kind one two bytes t p h
  of-tests false e b f = record {
    by_lengths = ((λ i. unfit e), (λ u. wrong e));
    by_codes = ((λ i. absurd (not-seven (two-numbers (wrong e) i))), (λ u. absurd (unfit e u.0)));
    done = λ k q. absurd (unfit e k);
    no_other = λ n i other. absurd (other (two-numbers i (wrong e)));
  }
  of-tests true e false f = record {
    by_lengths = ((λ i. absurd (not-seven (two-numbers i (above e f)))), (λ u. absurd (u (fits e))));
    by_codes = ((λ i. (fits e, no-codes f)), (λ u. above e f));
    done = λ k q. absurd (no-codes f q);
    no_other = λ n i other. two-numbers i (above e f);
  }
  of-tests true e true f = record {
    by_lengths = ((λ i. absurd (not-both (right e f) i)), (λ u. absurd (u (fits e))));
    by_codes = ((λ i. absurd (not-both (right e f) i)), (λ u. absurd (u.1 (codes-are t p h f))));
    done = λ k q. right e f;
    no_other = λ n i other. absurd (not-both (right e f) i);
  }

  pub decided : stated.Decided kind one two bytes t p h
  decided = of-tests fit refl (reg.are_codes t p h) refl

-- ---- a BMP280's humidity

module _ (one two bytes : List ℕ) (t p h : ℕ) (r : Reading) where
  abbrev skipped : Answer → Type 0
  skipped a = a ≡ Ok r → r.humidity ≡ Err (missing no.skipped)

  of-reading : skipped (Ok (reading_by Bmp280 (words_of one two) (counts_of bytes) t p h))
  of-reading d =
      let is : r ≡ reading_by Bmp280 (words_of one two) (counts_of bytes) t p h = cc in
      ap (λ (x : Reading). x.humidity) is

  of-refusal : (n : ℕ) → skipped (Err (refusal n))
  of-refusal n d = absurd (not-both d refl)

pub no-humidity : stated.NoHumidity
unfolding compensated_by
no-humidity one two bytes t p h r =
    pick (skipped one two bytes t p h r) (are_lengths Bmp280 (length one) (length two) (length bytes))
    (λ e. pick (skipped one two bytes t p h r) (reg.are_codes t p h)
    (λ f. of-reading one two bytes t p h r)
    (λ f. of-refusal one two bytes t p h r no.out_of_range))
    (λ e. of-refusal one two bytes t p h r no.wrong_length)
