-- What the bits of a double mean: a float that has a value has bits that mean it, and they mean no other.
use Prim.Native.Nat.{ℕ, zero, suc, ◌+◌, ◌*◌, ◌/◌, ◌%◌, ◌^◌, ◌<◌}
use native.Mathlib.Nat.{mul-one, mul_right_comm, eq_of_mul-eq-mul_right}
use native.Mathlib.Omega.{arith}
use mathlib.Core.Bool.{Bool, true, false, cond}
use mathlib.Core.Path.{◌≡◌, refl, ap, sym, subst, ◌∙◌}
use borrow.Author.Tests.{leb-true, leb-false, eqb-false}
use lib.Dec.{T, leb, eqb}
use lib.Pow.{pow_pos}
use lib.Ieee.{Float, nan, inf, fin, binary64, up, down, odd, of_bits, of_fields, to_bits, fits}
use lib.Ieee.Bits.{of_bits-to_bits, to_bits-lt}
use lib.Ieee.Exact.{HasValue, odd_sign}
use lib.Ieee.Fits.{down_pos}
use Rattle.rooms.specs.Exact.{sign_bit, magnitude, Means}

-- a float has one value
one_value : (y : Float) (s t : Bool) (a c a' c' : ℕ) → HasValue y s a c → HasValue y t a' c' → (s ≡ t) × (a * c' ≡ a' * c)
one_value nan s t a c a' c' v w = absurd v
one_value (inf u) s t a c a' c' v w = absurd v
one_value (fin u m e) s t a c a' c' v w = (
  sym v.0 ∙ w.0,
  eq_of_mul-eq-mul_right (down e) (down_pos e) (a * c') (a' * c)
      (mul_right_comm a c' (down e) ∙ ap (λ n. n * c') (sym v.1) ∙ mul_right_comm (m * up e) c c' ∙ ap (λ n. n * c) w.1 ∙ mul_right_comm a' (down e) c),
)

-- what the fields of a pattern say, where they are a number's
fields-say :
    (u s : Bool) (x t a c : ℕ) → HasValue (of_fields binary64 u x t) s a c → (u ≡ s) × (x ≡ 2047 → ⊥) × (magnitude x t * c ≡ a * 2 ^ 1074)
unfolding of_fields magnitude
fields-say u s zero t a c v =
    let (p, e) = one_value (odd 53 u t 0 1074) u s (t * 2 ^ 0) (2 ^ 1074) a c (odd_sign 53 u t 0 1074) v in
    (p, (λ z. omega arith), ap (λ n. n * c) (sym (mul-one t)) ∙ e)
fields-say u s (suc x) t a c v = go (eqb (suc x) 2047) refl v
  where
    dead : (b : Bool) → HasValue (cond b (inf u) nan) s a c → ⊥
    dead true v = v
    dead false v = v

    go :
        (b : Bool) → eqb (suc x) 2047 ≡ b → HasValue (cond b (cond (eqb t 0) (inf u) nan) (odd 53 u (2 ^ 52 + t) x 1074)) s a c →
        (u ≡ s) × (suc x ≡ 2047 → ⊥) × ((2 ^ 52 + t) * 2 ^ x * c ≡ a * 2 ^ 1074)
    go true q v = absurd (dead (eqb t 0) v)
    go false q v =
        let (p, e) = one_value (odd 53 u (2 ^ 52 + t) x 1074) u s ((2 ^ 52 + t) * 2 ^ x) (2 ^ 1074) a c (odd_sign 53 u (2 ^ 52 + t) x 1074) v in
        (p, eqb-false _ _ q, e)

abbrev pub bit : Bool → ℕ
bit true = 1
bit false = 0

sign-says : (s : Bool) (b : ℕ) → b < 2 ^ 64 → leb (2 ^ 63) b ≡ s → sign_bit b ≡ bit s
sign-says true b l e = let h = leb-true (2 ^ 63) b e in omega arith
sign-says false b l e = let h = leb-false (2 ^ 63) b e in omega arith

bits-say : (b : ℕ) (s : Bool) (a c : ℕ) → b < 2 ^ 64 → HasValue (of_bits binary64 b) s a c → Means b (bit s) a c
unfolding of_bits
bits-say b s a c l v =
    let (p, f, e) = fields-say (leb (2 ^ 63) b) s (b % 2 ^ 63 / 2 ^ 52) (b % 2 ^ 52) a c v in
    let x : b % 2 ^ 63 / 2 ^ 52 ≡ b / 2 ^ 52 % 2 ^ 11 = omega arith in
    record {
      width = l;
      sign-is = sign-says s b l p;
      finite = omega arith;
      value-is = ap (λ n. magnitude n (b % 2 ^ 52) * c) (sym x) ∙ e;
    }

pub means : (y : Float) (s : Bool) (a c : ℕ) → T (fits binary64 y) → HasValue y s a c → Means (to_bits binary64 y) (bit s) a c
means y s a c f v =
    bits-say (to_bits binary64 y) s a c (to_bits-lt binary64 y f)
    (subst (λ (x : Float). HasValue x s a c) (sym (of_bits-to_bits binary64 y f)) v)

pub one-meaning : {b s s' a a' c : ℕ} → Means b s a c → Means b s' a' c → (s ≡ s') × (a ≡ a')
one-meaning m n = (sym m.sign-is ∙ n.sign-is, eq_of_mul-eq-mul_right (2 ^ 1074) (pow_pos 1074) _ _ (sym m.value-is ∙ n.value-is))
