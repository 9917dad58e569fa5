-- The library's digits, below a base of at most 16, are those of the definition.
use Rattle.std.specs.Prelude.{ℕ, ◌≡◌, ◌≤◌, ◌<◌, cond, ltb, Option, Some, None, SomeIff, MatchResult, refl}
use Rattle.std.specs.Char.{digit_value as library}
use Rattle.std.specs.Option.{ok_or}
use Rattle.std.proofs.Common.{arith}
use Rattle.std.proofs.lemmas.Bool.Decides.{nat_tests}
use Rattle.bench_numbers.specs.declared.Reason.TheVariants.{NotANumber}
use Rattle.bench_numbers.specs.Reading.{digit_value, letter_value}
use Rattle.bench_numbers.proofs.digits.value.Goals as goal

same : (byte : ℕ) → digit_value byte ≡ cond (ltb (library byte) 16) (library byte) 16
unfolding digit_value letter_value
same byte = grind (arith, nat_tests)

some : (byte base : ℕ) → base ≤ 16 → library byte < base → library byte ≡ digit_value byte
some byte base h l = grind (arith, nat_tests, same byte)

none : (byte base : ℕ) → base ≤ 16 → (library byte < base → ⊥) → base ≤ digit_value byte
none byte base h l = grind (arith, nat_tests, same byte)

by-base :
    (byte base : ℕ) (digit : Option ℕ) → base ≤ 16 → SomeIff digit (library byte < base) (library byte)
    → MatchResult (ok_or digit NotANumber) (λ n. (n < base) × (n ≡ digit_value byte)) (λ reason. (base ≤ digit_value byte) × (reason ≡ NotANumber))
by-base byte base (Some n) h (l, e) = rw (e) (l, some byte base h l)
by-base byte base None h l = (none byte base h l, refl)

pub returns : goal.returns
returns c = rw (c.ok_or.ensures.value) (by-base _ _ _ c.requires.1 (rw c.from.ensures at c.to_digit.ensures.value))
