-- A word by how many characters it has: none, a dash alone, two, or others.
use Rattle.std.specs.Prelude.{ℕ, ◌+◌, ◌≤◌, ◌<◌, ◌≢◌, List, [], ◌∷◌, ◌≡◌, refl, length, get_or, Result, Ok, Err, eqb, ltb, Bool, true, false, cond}
use Rattle.std.proofs.Common.{arith, eq-eqb, ne_eqb}
use Rattle.bench_numbers.specs.declared.Reason.{Reason}
use Rattle.bench_numbers.specs.declared.Reason.TheVariants.{NotANumber, OddHex}
use Rattle.bench_numbers.specs.Reading.{digit_value, second_digit, pair, valued, given, alone, octet, is_dash, pairs_laid, word_laid}

-- ---- a number of exactly two hex digits

pub octet_of : (word : List ℕ) (at byte : ℕ) → length word ≡ 2 → Ok byte ≡ pair word → valued byte (at + 2) ≡ octet word at
unfolding octet
octet_of [] at byte h e = absurd (omega arith)
octet_of (a ∷ []) at byte h e = absurd (omega arith)
octet_of (a ∷ b ∷ []) at byte h e = rw (← e)
octet_of (a ∷ b ∷ d ∷ word) at byte h e = absurd (omega arith)

pub no_octet : (word : List ℕ) (at : ℕ) (reason : Reason) → Err reason ≡ pair word → Err NotANumber ≡ octet word at
unfolding octet
no_octet word at reason e = rw (← e)

digit-alone : (b : Bool) (at : ℕ) → Err NotANumber ≡ alone (cond b (Err NotANumber) (Err OddHex)) true at
digit-alone true at = refl
digit-alone false at = refl

more : (byte : Result ℕ Reason) (at : ℕ) → Err NotANumber ≡ alone byte false at
more (Ok byte) at = refl
more (Err reason) at = refl

pub other_length : (word : List ℕ) (at : ℕ) → length word ≢ 2 → Err NotANumber ≡ octet word at
unfolding octet pair second_digit
other_length [] at h = refl
other_length (a ∷ []) at h = digit-alone (ltb 15 (digit_value a)) at
other_length (a ∷ b ∷ []) at h = absurd (h refl)
other_length (a ∷ b ∷ d ∷ word) at h = more (pair (a ∷ b ∷ d ∷ word)) at

-- ---- a word of bytes

pub no_word : (word : List ℕ) (at : ℕ) (lent : List ℕ) (place : ℕ) → length word < 1 → (Err NotANumber, lent) ≡ word_laid word at lent place
unfolding word_laid
no_word [] at lent place h = refl
no_word (a ∷ word) at lent place h = absurd (omega arith)

pub dash :
    (word : List ℕ) (at : ℕ) (lent : List ℕ) (place : ℕ) → 1 ≤ length word → length word < 2 → get_or word 0 0 ≡ 45
    → (given 0 (at + 1) place, lent) ≡ word_laid word at lent place
unfolding word_laid is_dash
dash [] at lent place h k e = absurd (omega arith)
dash (a ∷ []) at lent place h k e = rw (eq-eqb a 45 e)
dash (a ∷ b ∷ word) at lent place h k e = absurd (omega arith)

either-way : {A : Type 0} (b : Bool) (x y : A) → x ≡ cond (cond b false false) y x
either-way true x y = refl
either-way false x y = refl

pub no_dash :
    (word : List ℕ) (at : ℕ) (lent : List ℕ) (place : ℕ) → 1 ≤ length word → (length word < 2 → get_or word 0 0 ≢ 45)
    → pairs_laid place word at lent place ≡ word_laid word at lent place
unfolding word_laid is_dash
no_dash [] at lent place h e = absurd (omega arith)
no_dash (a ∷ []) at lent place h e = rw (ne_eqb a 45 (e (omega arith)))
no_dash (a ∷ b ∷ word) at lent place h e = either-way (eqb a 45) (pairs_laid place (a ∷ b ∷ word) at lent place) (given 0 (at + 1) place, lent)
