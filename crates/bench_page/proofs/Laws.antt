-- A text on a page, part by part, and a number's digits, one by one.
use Prim.Native.Nat.{ℕ, zero, suc, ◌*◌, ◌/◌, ◌≤◌, ◌<◌}
use native.Mathlib.Omega.{arith}
use borrow.Author.Tests.{lt-ltb, le-ltb, ltb-true, ltb-false}
use mathlib.Core.Bool.{Bool, true, false}
use lib.Dec.{ltb}
use mathlib.Core.List.{List, [], ◌∷◌, ◌++◌}
use mathlib.Core.Path.{◌≡◌, refl}
use Rattle.bench_page.specs.declared.Page.{Page}
use Rattle.bench_page.specs.Page.{Held, held, written_byte, written, ◌▹◌}
use Rattle.bench_page.specs.Digits.{last_digit, spelled, decimal}

pub written-append : (s t : List ℕ) (h : Held) → written (s ++ t) h ≡ written t (written s h)
unfolding written
written-append [] t h = refl
written-append (b ∷ s) t h = written-append s t (written_byte b h)

-- a text written and then another is both written
pub joined : (s t : List ℕ) (p : Page) {q r : Page} → q ≡ p ▹ s → r ≡ q ▹ t → r ≡ p ▹ (s ++ t)
joined s t p e f = rw (written-append s t (held p)) (rw e at f)

-- a byte and then a text
pub first : (byte : ℕ) (text : List ℕ) (p : Page) {q r : Page} → q ≡ p ▹ byte ∷ [] → r ≡ q ▹ text → r ≡ p ▹ byte ∷ text
first byte text p e f = joined (byte ∷ []) text p e f

-- so many more digits hold every number below this
abbrev bound : ℕ → ℕ
bound zero = 10
bound (suc more) = 10 * bound more

by_size : (n : ℕ) {P : Type 0} → (n < 10 → P) → (10 ≤ n → P) → P
by_size n {P} few many = by (ltb n 10) refl
  where
    by : (b : Bool) → ltb n 10 ≡ b → P
    by true e = few (ltb-true n 10 e)
    by false e = many (ltb-false n 10 e)

one-digit : (more n : ℕ) → n < 10 → spelled more n ≡ last_digit n ∷ []
unfolding spelled
one-digit zero n h = refl
one-digit (suc more) n h = rw (lt-ltb n 10 h)

more-digits : (more n : ℕ) → 10 ≤ n → spelled (suc more) n ≡ spelled more (n / 10) ++ last_digit n ∷ []
unfolding spelled
more-digits more n h = rw (le-ltb n 10 h)

-- room for one digit more than a number has changes nothing
room-for-more : (more n : ℕ) → n < bound more → spelled more n ≡ spelled (suc more) n
room-for-more zero n h = rw (one-digit 0 n h, one-digit 1 n h)
room-for-more (suc more) n h =
    by_size n (λ l. rw (one-digit (suc more) n l, one-digit (suc (suc more)) n l))
    (λ l. rw (more-digits more n l, more-digits (suc more) n l, room-for-more more (n / 10) (omega arith)))

pub decimal-one : (n : ℕ) → n < 10 → last_digit n ∷ [] ≡ decimal n
unfolding decimal
decimal-one n h = rw (one-digit 19 n h)

pub decimal-more : (n : ℕ) → 10 ≤ n → n < bound 19 → decimal (n / 10) ++ last_digit n ∷ [] ≡ decimal n
unfolding decimal
decimal-more n h l = rw (more-digits 18 n h, room-for-more 18 (n / 10) (omega arith))
