-- What the guards' tests say of what comes in and of the product.
use Prim.Native.Nat.{ℕ}
use mathlib.Core.Path.{◌≡◌}
use mathlib.Core.Bool.{true, ◌&&◌}
use native.Mathlib.Omega.{arith}
use lib.Dec.{leb}
use lib.IntN.{ℤ}
use borrow.Author.Tests.{leb-true}
use Rattle.laws.specs.Tests.{both}
use Rattle.calibration.specs.declared.HumidityWords.{HumidityWords}
use Rattle.formula.specs.Plain.{inside, is_usual}
use Rattle.formula.proofs.Ranges.{inside_is, usual-is}
use Rattle.formula_humidity.specs.Plain.{are_small, SmallWords, is_plain, Plain, is_small, Small}

small-words : (words : HumidityWords) → are_small words ≡ true → SmallWords words
small-words words e =
    let h = both (inside 511 512 words.h2 && inside 511 512 words.h4) (inside 511 512 words.h5 && inside 63 64 words.h6) e in
    let k = both (inside 511 512 words.h2) (inside 511 512 words.h4) h.0 in
    let l = both (inside 511 512 words.h5) (inside 63 64 words.h6) h.1 in
    record {
      h2 = inside_is 511 512 words.h2 k.0 (omega arith) (omega arith);
      h4 = inside_is 511 512 words.h4 k.1 (omega arith) (omega arith);
      h5 = inside_is 511 512 words.h5 l.0 (omega arith) (omega arith);
      h6 = inside_is 63 64 words.h6 l.1 (omega arith) (omega arith);
    }

pub plain-is : (words : HumidityWords) (fine : ℤ) (count : ℕ) → is_plain words fine count ≡ true → Plain words fine count
plain-is words fine count e =
    let h = both (is_usual fine && are_small words) (leb count 65535) e in
    let k = both (is_usual fine) (are_small words) h.0 in
    record { usual = usual-is fine k.0; small = small-words words k.1; count_most = leb-true count 65535 h.1 }

pub small_is : (product : ℤ) → is_small product ≡ true → Small product
small_is product e = record { size = inside_is 999999999 1000000000 product e (omega arith) (omega arith) }
