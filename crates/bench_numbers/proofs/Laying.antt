-- A word's pairs laid one after another: what two characters at its front make, and what is left after them.
use Rattle.std.specs.Prelude.{ℕ, ◌+◌, ◌-◌, ◌≤◌, ◌<◌, min, List, [], ◌∷◌, ◌++◌, ◌≡◌, refl, length, take, drop, set, Result, Ok, Err}
use Rattle.std.proofs.Common.{arith, lt-ltb, le-ltb, ltb, Bool, true, false, cond, sym, ap, ◌∙◌, length-append}
use Rattle.bench_numbers.specs.declared.Reason.{Reason}
use Rattle.bench_numbers.specs.declared.Reason.TheVariants.{NotANumber, OddHex, TooLong}
use Rattle.bench_numbers.specs.Reading.{digit_value, second_digit, pair, pairs_laid, given}

-- ---- a chunk of at most two is the front of what it is cut from

pub record Cut (s x t : List ℕ) : Type 0 where
  pub front : take 2 s ≡ x
  pub left : drop 2 s ≡ t

empty : (t : List ℕ) → length t ≡ 0 → t ≡ []
empty [] e = refl
empty (b ∷ t) e = absurd (omega arith)

cut-of : (x t : List ℕ) → length x ≡ min 2 (length (x ++ t)) → 0 < length (x ++ t) → Cut (x ++ t) x t
cut-of [] t e h = absurd (omega arith)
cut-of (a ∷ []) t e h = rw (empty t (omega arith)) (record { front = refl; left = refl })
cut-of (a ∷ b ∷ []) t e h = record { front = refl; left = refl }
cut-of (a ∷ b ∷ d ∷ x) t e h = absurd (omega arith)

pub cut : (s x t : List ℕ) → s ≡ x ++ t → length x ≡ min 2 (length s) → 0 < length s → Cut s x t
cut s x t e f h = rw e (cut-of x t (rw e at f) (rw e at h))

-- ---- a digit alone is no byte

one : (b : Bool) (byte : ℕ) → ◌≡◌ {A = Result ℕ Reason} (cond b (Err NotANumber) (Err OddHex)) (Ok byte) → ⊥
one true byte e = cc
one false byte e = cc

alone : (high byte : ℕ) → pair (high ∷ []) ≡ Ok byte → ⊥
unfolding pair second_digit
alone high byte e = one (ltb 15 (digit_value high)) byte e

long : (s : List ℕ) (byte : ℕ) → 0 < length s → pair (take 2 s) ≡ Ok byte → 2 ≤ length s
long [] byte h e = absurd (omega arith)
long (high ∷ []) byte h e = absurd (alone high byte e)
long (high ∷ low ∷ s) byte h e = omega arith

-- ---- the pair at the front refused, with no room, and laid

module _ (start i : ℕ) (lent : List ℕ) (at : ℕ) where
  refused-front : (s : List ℕ) (reason : Reason) → 0 < length s → pair (take 2 s) ≡ Err reason → (Err reason, lent) ≡ pairs_laid start s i lent at
  unfolding pair second_digit pairs_laid
  refused-front [] reason h e = absurd (omega arith)
  refused-front (high ∷ []) reason h e = rw e
  refused-front (high ∷ low ∷ s) reason h e = rw e

  full-front : (s : List ℕ) (byte : ℕ) → 2 ≤ length s → pair (take 2 s) ≡ Ok byte → length lent ≤ at → (Err TooLong, lent) ≡ pairs_laid start s i lent at
  unfolding pair second_digit pairs_laid
  full-front [] byte h e k = absurd (omega arith)
  full-front (high ∷ []) byte h e k = absurd (omega arith)
  full-front (high ∷ low ∷ s) byte h e k = rw (e, le-ltb at (length lent) k)

  laid-front :
      (s : List ℕ) (byte : ℕ) → 2 ≤ length s → pair (take 2 s) ≡ Ok byte → at < length lent
      → pairs_laid start s i lent at ≡ pairs_laid start (drop 2 s) (i + 2) (set lent at byte) (at + 1)
  unfolding pair second_digit pairs_laid
  laid-front [] byte h e k = absurd (omega arith)
  laid-front (high ∷ []) byte h e k = absurd (omega arith)
  laid-front (high ∷ low ∷ s) byte h e k = rw (e, lt-ltb at (length lent) k)

  pub over : (s : List ℕ) → length s ≡ 0 → (given (at - start) i at, lent) ≡ pairs_laid start s i lent at
  unfolding pairs_laid
  over s e = rw (empty s e)

  module _ (s x t : List ℕ) (e : s ≡ x ++ t) (f : length x ≡ min 2 (length s)) (h : 0 < length s) where
    pub refused : (reason : Reason) → Err reason ≡ pair x → (Err reason, lent) ≡ pairs_laid start s i lent at
    refused reason g = refused-front s reason h (rw ((cut s x t e f h).front) (sym g))

    module _ (byte : ℕ) (g : Ok byte ≡ pair x) where
      is : pair (take 2 s) ≡ Ok byte
      is = rw ((cut s x t e f h).front) (sym g)

      pub two : 2 + length t ≡ length s
      two =
          let l = long s byte h is in
          let m : length s ≡ length x + length t = ap length e ∙ length-append x t in
          omega arith

      pub full : length lent ≤ at → (Err TooLong, lent) ≡ pairs_laid start s i lent at
      full k = full-front s byte (long s byte h is) is k

      pub laid : at < length lent → pairs_laid start s i lent at ≡ pairs_laid start t (i + 2) (set lent at byte) (at + 1)
      laid k = rw (← (cut s x t e f h).left) (laid-front s byte (long s byte h is) is k)
