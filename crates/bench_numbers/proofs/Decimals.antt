-- A decimal's digits read one after another.
use Rattle.std.specs.Prelude.{ℕ, ◌+◌, ◌*◌, ◌≤◌, ◌<◌, List, [], ◌∷◌, ◌≡◌, refl, length, get_or, drop, Err, eqb, Bool, true, false}
use Rattle.std.proofs.Common.{arith, lt-ltb, le-ltb, drop_of_length-le, ne_eqb, sym, ◌∙◌}
use Rattle.laws.specs.Rest.{rest}
use Rattle.laws.specs.Tests.{never}
use Rattle.bench_numbers.specs.declared.Reason.TheVariants.{NotANumber}
use Rattle.bench_numbers.specs.Reading.{digit_value, largest, read_on, decimal, valued}

pub none : (word : List ℕ) (from : ℕ) (is : Bool) → is ≡ eqb (length word) 0 → is ≡ true → Err NotANumber ≡ decimal word from
unfolding decimal
none [] from is e f = refl
none (byte ∷ word) from is e f = absurd (never (sym (ne_eqb (length (byte ∷ word)) 0 (λ z. omega arith)) ∙ sym e ∙ f))

pub begun : (word : List ℕ) (from : ℕ) (is : Bool) → is ≡ eqb (length word) 0 → is ≡ false → read_on 0 (drop 0 word) (from + 0) ≡ decimal word from
unfolding decimal
begun [] from is e f = absurd (never (sym f ∙ e))
begun (byte ∷ word) from is e f = let z : from + 0 ≡ from = omega arith in rw z

pub ended : (word : List ℕ) (value i from : ℕ) → length word ≤ i → i ≤ length word → valued value (from + length word) ≡ read_on value (drop i word) (from + i)
unfolding read_on
ended word value i from h k = let z : length word ≡ i = omega arith in rw (drop_of_length-le word h, z)

module _ (word : List ℕ) (value i from : ℕ) (h : i < length word) where
  pub no_digit : 10 ≤ digit_value (get_or word i 0) → Err NotANumber ≡ read_on value (drop i word) (from + i)
  unfolding read_on
  no_digit e = rw (rest word i h, lt-ltb 9 (digit_value (get_or word i 0)) e)

  module _ (digit : ℕ) (l : digit < 10) (e : digit ≡ digit_value (get_or word i 0)) where
    pub too_large : largest < value * 10 + digit → Err NotANumber ≡ read_on value (drop i word) (from + i)
    unfolding read_on
    too_large k = rw (rest word i h, ← e, le-ltb 9 digit (omega arith), lt-ltb largest (value * 10 + digit) k)

    pub goes_on : value * 10 + digit ≤ largest → read_on value (drop i word) (from + i) ≡ read_on (value * 10 + digit) (drop (i + 1) word) (from + (i + 1))
    unfolding read_on
    goes_on k =
        let z : from + (i + 1) ≡ from + i + 1 = omega arith in
        rw (rest word i h, ← e, le-ltb 9 digit (omega arith), le-ltb largest (value * 10 + digit) k, z)
