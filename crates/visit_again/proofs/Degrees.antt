-- A temperature that is shown is read as the same.
use Rattle.std.proofs.Common.{ℕ, zero, suc, ◌+◌, ◌-◌, ◌*◌, ◌/◌, ◌%◌, ◌≤◌, ◌<◌}
use native.Mathlib.Nat.{mod-lt}
use Rattle.std.proofs.Common.{arith}
use borrow.Author.Tests.{lt-ltb, le-ltb, le-leb, ltb-true, ltb-false, ne_eqb}
use Rattle.std.proofs.Common.{Bool, true, false}
use Rattle.std.proofs.Common.{List, [], ◌∷◌, ◌++◌, append_assoc}
use Rattle.std.proofs.Common.{◌≡◌, refl, ap, ◌∙◌}
use Rattle.std.proofs.Common.{ltb}
use Rattle.std.proofs.Common.{length, drop, length-append, Some, Ok}
use lib.Seq.{get_or-append_seam, get_or-append-add, drop-append-add}
use Rattle.bench_page.specs.Page.{letters}
use Rattle.bench_page.specs.Digits.{last_digit, spelled, decimal}
use Rattle.bench_row.specs.Row.{filled_from}
use Rattle.visit.specs.Steps.{value}
use Rattle.visit_figures.specs.Figures as figures
use Rattle.visit_typed.specs.Same.{same}
use Rattle.visit_typed.specs.Typed as typed
use Rattle.visit_typed.specs.Typed.{digit, with_digit, digits_on, digit_at, part, part_on, is_decimal, is_point, amount}
use Rattle.visit_again.proofs.Digits.{Long, by_size, one-digit, more-digits, digit-of, read-spelled, how-long}

unit : List ℕ
unit = 32 ∷ 0xC2 ∷ 0xB0 ∷ letters "C"

-- ---- where the digits end

module _ (s : List ℕ) (w x y : ℕ) where
  tail : List ℕ
  tail = 46 ∷ last_digit x ∷ last_digit y ∷ unit

  text : List ℕ
  text = s ++ tail

  module _ (digits : digits_on 0 text 0 ≡ record { value = w; end = length s }) where
    long : length text ≡ length s + 7
    unfolding text tail unit
    long = length-append s tail

    point : is_point text (length s) ≡ true
    unfolding is_point text tail
    point =
        let h : length s < length text = omega (arith, long) in
        rw (lt-ltb (length s) (length text) h, get_or-append_seam s 46 (last_digit x ∷ last_digit y ∷ unit) 0)

    first : digit_at text (length s + 1) ≡ Some (x % 10)
    unfolding digit_at text tail
    first =
        let h : length s + 1 < length text = omega (arith, long) in
        rw (lt-ltb (length s + 1) (length text) h, get_or-append-add s tail 1 0) (digit-of (x % 10) (mod-lt x (omega arith)))

    second : digit_at text (length s + 1 + 1) ≡ Some (y % 10)
    unfolding digit_at text tail
    second =
        let e : length s + 1 + 1 ≡ length s + 2 = omega arith in
        let h : length s + 2 < length text = omega (arith, long) in
        rw (e, lt-ltb (length s + 2) (length text) h, get_or-append-add s tail 2 0) (digit-of (y % 10) (mod-lt y (omega arith)))

    decimals : part_on text 2 0 (length s + 1) ≡ record { value = x % 10 * 10 + y % 10; end = length s + 3 }
    unfolding part_on with_digit
    decimals =
        let hx : x % 10 < 10 = mod-lt x (omega arith) in
        let v : 0 * 10 + x % 10 < 10000000000 = omega arith in
        let value : (0 * 10 + x % 10) * 10 + y % 10 ≡ x % 10 * 10 + y % 10 = omega arith in
        let end : length s + 1 + 1 + 1 ≡ length s + 3 = omega arith in
        rw (first, second, lt-ltb (0 * 10 + x % 10) 10000000000 v, value, end)

    both : part text (length s + 1) 2 ≡ Some (record { value = x % 10 * 10 + y % 10; end = length s + 3 })
    unfolding part
    both =
        let h : length s + 1 < length s + 3 = omega arith in
        rw (decimals, lt-ltb (length s + 1) (length s + 3) h)

    module _ (l : Long 9 s) where
      read : amount text 2 ≡ Some (record { whole = w; part = x % 10 * 10 + y % 10; end = length s + 3 })
      unfolding amount typed.digits is_decimal
      read =
          let few : length s ≤ 10 = omega (arith, l.few) in
          rw (digits, le-ltb (length s) 1 l.some, le-leb (length s) 10 few, point, both)

      followed : same (drop (length s + 3) text) unit ≡ true
      unfolding text tail unit
      followed = rw (drop-append-add s tail 3)

      as-degrees : (minus : Bool) → typed.degrees minus text ≡ typed.celsius minus w (x % 10 * 10 + y % 10)
      unfolding typed.degrees unit
      as-degrees minus = rw (read, followed)

-- ---- what the text begins with

record Begins (s : List ℕ) : Type 0 where
  number : ℕ
  rest : List ℕ
  is : s ≡ last_digit number ∷ rest

onto : (more n : ℕ) → 10 ≤ n → Begins (spelled more (n / 10)) → Begins (spelled (suc more) n)
onto more n g b = record { number = b.number; rest = b.rest ++ last_digit n ∷ []; is = rw (more-digits more n g, b.is) }

begins : (more n : ℕ) → Begins (spelled more n)
unfolding spelled
begins zero n = record { number = n; rest = []; is = refl }
begins (suc more) n =
    by_size n (λ g. record { number = n; rest = []; is = one-digit (suc more) n g }) (λ g. onto more n g (begins more (n / 10)))

not-missing : (m : ℕ) (t : List ℕ) → typed.is_missing (last_digit m ∷ t) ≡ false
not-missing m t =
    let h : m % 10 < 10 = mod-lt m (omega arith) in
    rw (ne_eqb (48 + m % 10) 109 (λ e. omega arith))

not-minus : (m : ℕ) (t : List ℕ) → typed.is_minus (last_digit m ∷ t) ≡ false
not-minus m t =
    let h : m % 10 < 10 = mod-lt m (omega arith) in
    rw (ne_eqb (48 + m % 10) 45 (λ e. omega arith))

-- ---- hundredths of a degree, with their unit

abbrev hundredths : ℕ → List ℕ
hundredths n = figures.hundredths n ++ figures.celsius

small : (d : ℕ) → d < 10 → decimal d ≡ last_digit d ∷ []
unfolding decimal
small d h = one-digit 19 d h

shown : (n : ℕ) → hundredths n ≡ text (decimal (n / 100)) (n / 100) (n / 10 % 10) (n % 10)
unfolding figures.hundredths filled_from text tail unit
shown n =
    let a : n / 10 % 10 < 10 = mod-lt (n / 10) (omega arith) in
    let b : n % 10 < 10 = mod-lt n (omega arith) in
    rw (small (n / 10 % 10) a, small (n % 10) b) (append_assoc (decimal (n / 100)) (46 ∷ last_digit (n / 10 % 10) ∷ last_digit (n % 10) ∷ []) unit)

at-start : (k : ℕ) → 0 + k ≡ k
at-start k = omega arith

digits_of :
    (w : ℕ) (r : List ℕ) → w < 10000000000
    → digits_on 0 (decimal w ++ (46 ∷ r)) 0 ≡ record { value = w; end = length (decimal w) }
unfolding decimal digits_on digit
digits_of w r h = read-spelled 9 19 w (46 ∷ r) 0 h (omega arith) h ∙ rw (at-start (length (spelled 19 w)))

module _ (n : ℕ) (h : n ≤ 0x80000000) where
  read-degrees : (minus : Bool) → typed.degrees minus (hundredths n) ≡ typed.celsius minus (n / 100) (n / 10 % 10 % 10 * 10 + n % 10 % 10)
  unfolding decimal text tail
  read-degrees minus =
      rw (shown n)
      (as-degrees (decimal (n / 100)) (n / 100) (n / 10 % 10) (n % 10)
      (digits_of (n / 100) (last_digit (n / 10 % 10) ∷ last_digit (n % 10) ∷ unit) (omega arith))
      (how-long 9 19 (n / 100) (omega arith) (omega arith)) minus)

  total : n / 100 * 100 + (n / 10 % 10 % 10 * 10 + n % 10 % 10) ≡ n
  total = omega arith

  above : n ≤ 0x7FFFFFFF → typed.celsius false (n / 100) (n / 10 % 10 % 10 * 10 + n % 10 % 10) ≡ Ok (value n)
  unfolding typed.celsius
  above l = rw (total, le-ltb 0x7FFFFFFF n l)

  below : (n ≡ 0 → ⊥) → typed.celsius true (n / 100) (n / 10 % 10 % 10 * 10 + n % 10 % 10) ≡ Ok (value (0x100000000 - n))
  unfolding typed.celsius typed.below_zero
  below z = rw (total, le-ltb 0x80000000 n h, ne_eqb n 0 z)

-- ---- a temperature, above zero and below

missing-not : (word : ℕ) → Begins (spelled 19 (word / 100)) → typed.is_missing (hundredths word) ≡ false
unfolding decimal text tail
missing-not word b =
    rw (shown word, b.is) (not-missing b.number (b.rest ++ tail b.rest 0 (word / 10 % 10) (word % 10)))

minus-not : (word : ℕ) → Begins (spelled 19 (word / 100)) → typed.is_minus (hundredths word) ≡ false
unfolding decimal text tail
minus-not word b =
    rw (shown word, b.is) (not-minus b.number (b.rest ++ tail b.rest 0 (word / 10 % 10) (word % 10)))

plain : (word : ℕ) → word < 0x80000000 → typed.temperature (hundredths word) ≡ Ok (value word)
unfolding typed.temperature
plain word h =
    let b = begins 19 (word / 100) in
    rw (missing-not word b, minus-not word b) (read-degrees word (omega arith) false ∙ above word (omega arith) (omega arith))

minus-text : (r : List ℕ) → typed.temperature (45 ∷ r) ≡ typed.degrees true r
unfolding typed.temperature
minus-text r = refl

signed : (word : ℕ) → 0x80000000 ≤ word → word ≤ 0xFFFFFFFF → typed.temperature (45 ∷ hundredths (0xFFFFFFFF - word + 1)) ≡ Ok (value word)
signed word g h =
    let n = 0xFFFFFFFF - word + 1 in
    let e : 0x100000000 - n ≡ word = omega arith in
    minus-text (hundredths n) ∙ read-degrees n (omega arith) true ∙ below n (omega arith) (λ z. omega arith) ∙ ap (λ (n : ℕ). Ok (value n)) e

pub warm-or-cold : (word : ℕ) → word ≤ 0xFFFFFFFF → typed.temperature (figures.temperature word) ≡ Ok (value word)
unfolding figures.temperature figures.degrees
warm-or-cold word h = by (ltb word 0x80000000) refl
  where
    by : (b : Bool) → ltb word 0x80000000 ≡ b → typed.temperature (figures.temperature word) ≡ Ok (value word)
    by true e = rw e (plain word (ltb-true word 0x80000000 e))
    by false e = rw e (signed word (ltb-false word 0x80000000 e) h)
