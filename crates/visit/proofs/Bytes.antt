-- Bytes and words: four bytes high first, a length in two, and both back.
use Prim.Native.Nat.{ℕ, suc, ◌+◌, ◌*◌, ◌/◌, ◌%◌, ◌≤◌}
use native.Mathlib.Omega.{arith}
use mathlib.Core.List.{List, [], ◌∷◌, ◌++◌}
use mathlib.Core.Path.{◌≡◌, refl}
use lib.ListN.{length, take, drop, get_or}
use Rattle.visit.specs.Tree.{four_bytes, Bytes}
use Rattle.visit.specs.Reader.{word_of}

pub bytes-right : (s t : List ℕ) → Bytes (s ++ t) → Bytes t
bytes-right [] t h = h
bytes-right (b ∷ s) t h = bytes-right s t h.1

pub bytes_take : (n : ℕ) (s : List ℕ) → Bytes s → Bytes (take n s)
bytes_take ℕ.zero s h = tt
bytes_take (suc n) [] h = tt
bytes_take (suc n) (b ∷ s) h = (h.0, bytes_take n s h.1)

pub word_back : (v : ℕ) → word_of (four_bytes v) ≡ v
word_back v = omega arith

pub length_back : (n : ℕ) → n / 256 * 256 + n % 256 ≡ n
length_back n = omega arith

pub four-back : (s : List ℕ) → Bytes s → 4 ≤ length s → s ≡ four_bytes (word_of (take 4 s)) ++ drop 4 s
four-back [] h g = absurd (omega arith)
four-back (a ∷ []) h g = absurd (omega arith)
four-back (a ∷ b ∷ []) h g = absurd (omega arith)
four-back (a ∷ b ∷ c ∷ []) h g = absurd (omega arith)
four-back (a ∷ b ∷ c ∷ d ∷ s) h g =
    let v = a * 16777216 + b * 65536 + c * 256 + d in
    let e₀ : v / 16777216 ≡ a = omega arith in
    let e₁ : v / 65536 % 256 ≡ b = omega arith in
    let e₂ : v / 256 % 256 ≡ c = omega arith in
    let e₃ : v % 256 ≡ d = omega arith in
    rw (e₀, e₁, e₂, e₃)

pub two_back : (s : List ℕ) → 2 ≤ length s → s ≡ get_or (take 2 s) 0 0 ∷ get_or (take 2 s) 1 0 ∷ drop 2 s
two_back [] g = absurd (omega arith)
two_back (a ∷ []) g = absurd (omega arith)
two_back (a ∷ b ∷ s) g = refl
