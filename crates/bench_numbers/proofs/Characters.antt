-- A pair by its characters: none, one, or two and more, each a digit or not.
use Rattle.std.specs.Prelude.{ℕ, ◌+◌, ◌*◌, ◌≤◌, ◌<◌, List, [], ◌∷◌, ◌≡◌, refl, length, get_or, Ok, Err}
use Rattle.std.proofs.Common.{arith, lt-ltb, le-ltb}
use Rattle.bench_numbers.specs.declared.Reason.TheVariants.{NotANumber, OddHex}
use Rattle.bench_numbers.specs.Reading.{digit_value, second_digit, pair}

pub none : (s : List ℕ) → length s < 1 → Err NotANumber ≡ pair s
unfolding pair
none [] h = refl
none (high ∷ s) h = absurd (omega arith)

pub no_high : (s : List ℕ) → 1 ≤ length s → 16 ≤ digit_value (get_or s 0 0) → Err NotANumber ≡ pair s
unfolding pair
no_high [] h e = absurd (omega arith)
no_high (high ∷ s) h e = rw (lt-ltb 15 (digit_value high) (omega arith))

pub alone : (s : List ℕ) → 1 ≤ length s → length s < 2 → digit_value (get_or s 0 0) < 16 → Err OddHex ≡ pair s
unfolding pair second_digit
alone [] h k e = absurd (omega arith)
alone (high ∷ []) h k e = rw (le-ltb 15 (digit_value high) (omega arith))
alone (high ∷ low ∷ s) h k e = absurd (omega arith)

pub no_low : (s : List ℕ) → 2 ≤ length s → digit_value (get_or s 0 0) < 16 → 16 ≤ digit_value (get_or s 1 0) → Err NotANumber ≡ pair s
unfolding pair second_digit
no_low [] h e f = absurd (omega arith)
no_low (high ∷ []) h e f = absurd (omega arith)
no_low (high ∷ low ∷ s) h e f = rw (le-ltb 15 (digit_value high) (omega arith), lt-ltb 15 (digit_value low) (omega arith))

pub both :
    (s : List ℕ) (high low : ℕ) → 2 ≤ length s → high < 16 → high ≡ digit_value (get_or s 0 0) → low < 16 → low ≡ digit_value (get_or s 1 0)
    → Ok (high * 16 + low) ≡ pair s
unfolding pair second_digit
both [] high low h l e k f = absurd (omega arith)
both (first ∷ []) high low h l e k f = absurd (omega arith)
both (first ∷ second ∷ s) high low h l e k f = rw (← e, ← f, le-ltb 15 high (omega arith), le-ltb 15 low (omega arith))
