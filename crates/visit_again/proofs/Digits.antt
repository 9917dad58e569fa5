-- The digits of a number, read one after another, are the number.
use Rattle.std.proofs.Common.{ℕ, zero, suc, ◌+◌, ◌-◌, ◌*◌, ◌/◌, ◌%◌, ◌≤◌, ◌<◌}
use native.Mathlib.Nat.{mod-lt}
use Rattle.std.proofs.Common.{arith}
use borrow.Author.Tests.{lt-ltb, le-ltb, le-leb, ltb-true, ltb-false}
use Rattle.std.proofs.Common.{Bool, true, false}
use Rattle.std.proofs.Common.{List, [], ◌∷◌, ◌++◌, append_assoc}
use Rattle.std.proofs.Common.{◌≡◌, refl, ap, ◌∙◌}
use Rattle.std.proofs.Common.{ltb}
use Rattle.std.proofs.Common.{length, length-append, Some}
use Rattle.bench_page.specs.Digits.{last_digit, spelled}
use Rattle.visit_typed.specs.Typed.{digit, with_digit, digits_on}

-- so many more digits hold every number below this
abbrev pub bound : ℕ → ℕ
bound zero = 10
bound (suc more) = 10 * bound more

pub by_size : (n : ℕ) {P : Type 0} → (n < 10 → P) → (10 ≤ n → P) → P
by_size n {P} few many = by (ltb n 10) refl
  where
    by : (b : Bool) → ltb n 10 ≡ b → P
    by true e = few (ltb-true n 10 e)
    by false e = many (ltb-false n 10 e)

pub one-digit : (more n : ℕ) → n < 10 → spelled more n ≡ last_digit n ∷ []
unfolding spelled
one-digit zero n h = refl
one-digit (suc more) n h = rw (lt-ltb n 10 h)

pub more-digits : (more n : ℕ) → 10 ≤ n → spelled (suc more) n ≡ spelled more (n / 10) ++ last_digit n ∷ []
unfolding spelled
more-digits more n h = rw (le-ltb n 10 h)

pub digit-of : (d : ℕ) → d < 10 → digit (48 + d) ≡ Some d
unfolding digit
digit-of d h =
    let low : 48 ≤ 48 + d = omega arith in
    let high : 48 + d ≤ 57 = omega arith in
    let e : 48 + d - 48 ≡ d = omega arith in
    rw (le-ltb (48 + d) 48 low, le-leb (48 + d) 57 high, e)

module _ (value n : ℕ) (rest : List ℕ) (at : ℕ) where
  next : value < 10000000000 → digits_on value (last_digit n ∷ rest) at ≡ digits_on (value * 10 + n % 10) rest (at + 1)
  unfolding digits_on with_digit
  next h =
      let d : n % 10 < 10 = mod-lt n (omega arith) in
      rw (digit-of (n % 10) d, lt-ltb value 10000000000 h)

alone : (more n : ℕ) (rest : List ℕ) (at : ℕ) → n < 10 → digits_on 0 (spelled more n ++ rest) at ≡ digits_on n rest (at + length (spelled more n))
alone more n rest at h =
    let e : 0 * 10 + n % 10 ≡ n = omega arith in
    rw (one-digit more n h) (next 0 n rest at (omega arith) ∙ ap (λ (v : ℕ). digits_on v rest (at + 1)) e)

-- how many digits a text has: at least one, and at most so many more
pub record Long (k : ℕ) (s : List ℕ) : Type 0 where
  pub some : 1 ≤ length s
  pub few : length s ≤ k + 1

-- one digit more than a text that is read already
module _ (more n : ℕ) (rest : List ℕ) (at : ℕ) (g : 10 ≤ n) where
  many :
      n / 10 < 10000000000
      → digits_on 0 (spelled more (n / 10) ++ (last_digit n ∷ rest)) at ≡ digits_on (n / 10) (last_digit n ∷ rest) (at + length (spelled more (n / 10)))
      → digits_on 0 (spelled (suc more) n ++ rest) at ≡ digits_on n rest (at + length (spelled (suc more) n))
  many h i =
      let e : n / 10 * 10 + n % 10 ≡ n = omega arith in
      let f : at + length (spelled more (n / 10)) + 1 ≡ at + (length (spelled more (n / 10)) + 1) = omega arith in
      rw (more-digits more n g, append_assoc (spelled more (n / 10)) (last_digit n ∷ []) rest, length-append (spelled more (n / 10)) (last_digit n ∷ []))
      (i ∙ next (n / 10) n rest (at + length (spelled more (n / 10))) h ∙ rw (e, f))

  longer : (k : ℕ) → Long k (spelled more (n / 10)) → Long (suc k) (spelled (suc more) n)
  longer k w =
      let e : length (spelled more (n / 10) ++ last_digit n ∷ []) ≡ length (spelled more (n / 10)) + 1 =
      length-append (spelled more (n / 10)) (last_digit n ∷ []) in
      rw (more-digits more n g) (record { some = rw e (omega (arith, w.some)); few = rw e (omega (arith, w.few)) })

pub read-spelled :
    (k more n : ℕ) (rest : List ℕ) (at : ℕ) → n < bound k → k ≤ more → n < 10000000000
    → digits_on 0 (spelled more n ++ rest) at ≡ digits_on n rest (at + length (spelled more n))
read-spelled zero more n rest at h l m = alone more n rest at h
read-spelled (suc k) zero n rest at h l m = absurd (omega arith)
read-spelled (suc k) (suc more) n rest at h l m =
    by_size n (alone (suc more) n rest at)
    (λ g. many more n rest at g (omega arith) (read-spelled k more (n / 10) (last_digit n ∷ rest) at (omega arith) (omega arith) (omega arith)))

pub how-long : (k more n : ℕ) → n < bound k → k ≤ more → Long k (spelled more n)
how-long zero more n h l = rw (one-digit more n h) (record { some = omega arith; few = omega arith })
how-long (suc k) zero n h l = absurd (omega arith)
how-long (suc k) (suc more) n h l =
    by_size n (λ g. rw (one-digit (suc more) n g) (record { some = omega arith; few = omega arith }))
    (λ g. longer more n [] 0 g k (how-long k more (n / 10) (omega arith) (omega arith)))
