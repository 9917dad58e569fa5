-- Why a number has one pattern of bits at most: the exponent is read off its size.
use Prim.Native.Nat.{ℕ, zero, suc, ◌+◌, ◌*◌, ◌^◌, ◌≤◌, ◌<◌}
use native.Mathlib.Nat.{le_refl, le_trans, lt_of_lt_of_le, mul-le-mul, eq_of_mul-eq-mul_right}
use native.Mathlib.Omega.{arith}
use mathlib.Core.Bool.{Bool, true, false}
use mathlib.Core.Path.{◌≡◌, refl, ap, sym, subst, ◌∙◌}
use borrow.Author.Tests.{ltb-true, ltb-false}
use lib.Dec.{ltb}
use lib.Pow.{pow-add, pow_pos, pow_mono, shl_lt}
use Rattle.rooms.specs.Exact.{sign_bit, exponent, fraction, magnitude, OnePattern}

below : (e t : ℕ) → t < 2 ^ 52 → magnitude (suc e) t < 2 ^ (53 + e)
unfolding magnitude
below e t l = let h : 2 ^ 52 + t < 2 ^ 53 = omega arith in shl_lt 53 e h

above : (e t : ℕ) → 2 ^ (52 + e) ≤ magnitude (suc e) t
unfolding magnitude
above e t =
    let h : 2 ^ 52 ≤ 2 ^ 52 + t = omega arith in
    subst (λ (n : ℕ). n ≤ (2 ^ 52 + t) * 2 ^ e) (sym (pow-add 2 52 e)) (mul-le-mul h (le_refl (2 ^ e)))

grows : (e e' t t' : ℕ) → t < 2 ^ 52 → e < e' → magnitude (suc e) t < magnitude (suc e') t'
grows e e' t t' l k =
    let h : 53 + e ≤ 52 + e' = omega arith in
    lt_of_lt_of_le (below e t l) (le_trans (pow_mono h) (above e' t'))

least : (e t t' : ℕ) → t < 2 ^ 52 → t < magnitude (suc e) t'
least e t t' l =
    let h : 52 ≤ 52 + e = omega arith in
    lt_of_lt_of_le l (le_trans (pow_mono h) (above e t'))

one_size : (x x' t t' : ℕ) → t < 2 ^ 52 → t' < 2 ^ 52 → magnitude x t ≡ magnitude x' t' → (x ≡ x') × (t ≡ t')
unfolding magnitude
one_size zero zero t t' l l' q = (refl, q)
one_size zero (suc e') t t' l l' q = let h = least e' t t' l in absurd (omega arith)
one_size (suc e) zero t t' l l' q = let h = least e t' t l' in absurd (omega arith)
one_size (suc e) (suc e') t t' l l' q = go (ltb e e') (ltb e' e) refl refl
  where
    go : (a b : Bool) → ltb e e' ≡ a → ltb e' e ≡ b → (suc e ≡ suc e') × (t ≡ t')
    go true b p r = let h = grows e e' t t' l (ltb-true e e' p) in absurd (omega arith)
    go false true p r = let h = grows e' e t' t l' (ltb-true e' e r) in absurd (omega arith)
    go false false p r =
        let h = ltb-false e e' p in
        let k = ltb-false e' e r in
        let s : e ≡ e' = omega arith in
        let d = eq_of_mul-eq-mul_right (2 ^ e) (pow_pos e) (2 ^ 52 + t) (2 ^ 52 + t') (q ∙ ap (λ n. (2 ^ 52 + t') * 2 ^ n) (sym s)) in
        (ap suc s, omega arith)

-- the fields make the bits
joined : ℕ → ℕ → ℕ → ℕ
joined s x t = s * 2 ^ 63 + x * 2 ^ 52 + t

bits_are : (b : ℕ) → b < 2 ^ 64 → b ≡ joined (sign_bit b) (exponent b) (fraction b)
unfolding joined
bits_are b l = omega arith

pub one-pattern : OnePattern
one-pattern b b' sign value divisor positive m n =
    let sizes = eq_of_mul-eq-mul_right divisor positive _ _ (m.value-is ∙ sym n.value-is) in
    let (x, t) = one_size (exponent b) (exponent b') (fraction b) (fraction b') (omega arith) (omega arith) sizes in
    let s = m.sign-is ∙ sym n.sign-is in
    bits_are b m.width ∙ ap (λ k. joined k (exponent b) (fraction b)) s ∙ ap (λ k. joined (sign_bit b') k (fraction b)) x
    ∙ ap (joined (sign_bit b') (exponent b')) t ∙ sym (bits_are b' n.width)
