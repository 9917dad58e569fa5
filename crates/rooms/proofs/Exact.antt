-- Why the map's doubles are exact: a whole number below 2 ^ 53 is a double, and so is it divided by a power of two.
use Prim.Native.Nat.{ℕ, suc, ◌+◌, ◌-◌, ◌*◌, ◌^◌, ◌≤◌, ◌<◌}
use native.Mathlib.Nat.{mul_assoc, mul_comm, one-mul, le_of_lt, lt_of_lt_of_le, mul-pos}
use native.Mathlib.Omega.{arith}
use mathlib.Core.Bool.{Bool, true, false}
use mathlib.Core.Path.{◌≡◌, refl, ap, sym, subst, ◌∙◌}
use lib.Pow.{pow-add, pow_pos, pow_mono, shl_lt}
use Rattle.laws.specs.Tests.{never}
use lib.IntN.{ℤ, pos, negsuc}
use lib.Signed.{mag}
use lib.Ieee.{Float, nan, inf, fin, binary64, up, down, div, of_int, round, to_bits}
use lib.Ieee.Back.{round_whole}
use lib.Ieee.Exact.{HasValue, round_exact}
use lib.Ieee.Fits.{down_pos, round-fits, div-fits}
use lib.Ieee.Scale.{round_same}
use Rattle.std.specs.Prelude.{Ok}
use Rattle.paper.specs.declared.Missing.{Missing}
use Rattle.paper.specs.Answers.{missing}
use Rattle.compensation.specs.Compensation.{Answer}
use Rattle.compensation.specs.declared.Reading.{Reading}
use Rattle.rooms.specs.declared.Cell.TheVariants as the
use Rattle.rooms.specs.declared.Cells.{Cells}
use Rattle.rooms.specs.declared.MapPoint.{MapPoint}
use Rattle.rooms.specs.Points.{hundredths, over, cells_of}
use Rattle.rooms.specs.Exact.{heat, Means, Hides, Faithful, pointed, FaithfulDistinct, ZeroIsKnown}
use Rattle.rooms.proofs.Bits.{bit, means, one-meaning}

-- ---- a whole number divided by 2 ^ k

module _ (k n : ℕ) (small : n < 2 ^ 53) (few : k ≤ 1074) where
  split : 2 ^ (1074 - k) * 2 ^ k ≡ 2 ^ 1074
  split = let e : 1074 - k + k ≡ 1074 = omega arith in sym (pow-add 2 (1074 - k) k) ∙ ap (λ n. 2 ^ n) e

  rounded : HasValue (round binary64 false n (2 ^ k)) false n (2 ^ k)
  rounded =
      let wide : 53 + (1074 - k) ≤ 2098 = omega arith in
      round_exact binary64 false n (2 ^ k) n (1074 - k) (pow_pos k) small
      (lt_of_lt_of_le (shl_lt 53 (1074 - k) small) (pow_mono wide))
      (sym (ap (λ m. n * m) split) ∙ sym (mul_assoc n (2 ^ (1074 - k)) (2 ^ k)))

  divided : (y : Float) → HasValue y false n 1 → div binary64 y (fin false 1 (pos k)) ≡ round binary64 false n (2 ^ k)
  unfolding div
  divided nan v = absurd v
  divided (inf s) v = absurd v
  divided (fin true m e) v = absurd (never (sym v.0))
  divided (fin false m e) v =
      round_same binary64 false (m * up e * 1) (1 * 2 ^ k * down e) n (2 ^ k) (mul-pos (mul-pos (omega arith) (pow_pos k)) (down_pos e)) (pow_pos k)
      (ap (λ m. m * 2 ^ k) v.1 ∙ simp (mul_assoc, mul_comm, one-mul))

  over-value : HasValue (over k n) false n (2 ^ k)
  unfolding over of_int
  over-value = rw (divided (of_int binary64 (pos n)) (round_whole binary64 false n (le_of_lt small))) rounded

  over-means : Means (to_bits binary64 (over k n)) 0 n (2 ^ k)
  unfolding over
  over-means = means (over k n) false n (2 ^ k) (div-fits binary64 _ _) over-value

-- ---- a temperature

round-means : (s : Bool) (n : ℕ) → n ≤ 2 ^ 53 → Means (to_bits binary64 (round binary64 s n 1)) (bit s) n 1
round-means s n l = means (round binary64 s n 1) s n 1 (round-fits binary64 s n 1) (round_whole binary64 s n l)

warm-means : (n : ℕ) → n < 2 ^ 31 → Means (to_bits binary64 (hundredths (pos n))) 0 n 1
unfolding of_int
warm-means n l = round-means false n (omega arith)

cold-means : (n : ℕ) → n < 2 ^ 31 → Means (to_bits binary64 (hundredths (negsuc n))) 1 (suc n) 1
unfolding of_int
cold-means n l = round-means true (suc n) (omega arith)

-- ---- the statements

hidden : (m : Missing) → Hides m (the.Missing m) (fin false 0 (pos 0)) false
unfolding to_bits
hidden m = record { passes = refl; flag = refl; plain-zero = refl }

pub faithful : Faithful cells_of pointed
faithful = record {
  warm = λ r e l. rw e (record { holds = refl; flag = refl; exact = warm-means _ l });
  cold = λ r e l. rw e (record { holds = refl; flag = refl; exact = cold-means _ l });
  pressure = λ r {n} e l. rw e (record { holds = refl; flag = refl; exact = over-means 8 n (omega arith) (omega arith) });
  humidity = λ r {n} e l. rw e (record { holds = refl; flag = refl; exact = over-means 10 n (omega arith) (omega arith) });
  no-temperature = λ r e. rw e (hidden _);
  no-pressure = λ r e. rw e (hidden _);
  no-humidity = λ r e. rw e (hidden _);
  refused = λ n. (hidden (missing n), hidden (missing n), hidden (missing n));
}

-- the same double has the same bits, which mean one number
same : {x y : Float} {s s' a a' c : ℕ} → Means (to_bits binary64 x) s a c → Means (to_bits binary64 y) s' a' c → x ≡ y → (s ≡ s') × (a ≡ a')
same {x} {y} {s} {s'} {a} {a'} {c} m n e = one-meaning (subst (λ (z : Float). Means (to_bits binary64 z) s a c) e m) n

module _ (cells : Answer → Cells) (point : Answer → MapPoint) (f : Faithful cells point) where
  temperatures :
      (r s : Reading) (y z : ℤ) {fine fine' : ℤ} → r.temperature ≡ Ok (heat y fine) → s.temperature ≡ Ok (heat z fine') →
      mag y < 2 ^ 31 → mag z < 2 ^ 31 → (point (Ok r)).temperature ≡ (point (Ok s)).temperature → y ≡ z
  temperatures r s (pos m) (pos n) d e k l q = ap pos (same (f.warm r d k).exact (f.warm s e l).exact q).1
  temperatures r s (pos m) (negsuc n) d e k l q = let h = (same (f.warm r d k).exact (f.cold s e l).exact q).0 in absurd (omega arith)
  temperatures r s (negsuc m) (pos n) d e k l q = let h = (same (f.cold r d k).exact (f.warm s e l).exact q).0 in absurd (omega arith)
  temperatures r s (negsuc m) (negsuc n) d e k l q =
      let h : m ≡ n = (let h = (same (f.cold r d k).exact (f.cold s e l).exact q).1 in omega arith) in
      ap negsuc h

pub distinct : FaithfulDistinct
distinct cells point f = record {
  temperature = λ r s d e k l q. temperatures cells point f r s _ _ d e k l q;
  pressure = λ r s d e k l q. (same (f.pressure r d k).exact (f.pressure s e l).exact q).1;
  humidity = λ r s d e k l q. (same (f.humidity r d k).exact (f.humidity s e l).exact q).1;
}

pub zero-is-known : ZeroIsKnown pointed
unfolding over of_int div
zero-is-known = record {
  temperature = λ r s d e. rw (d, e) (refl, refl, refl);
  pressure = λ r s d e. rw (d, e) (refl, refl, refl);
  humidity = λ r s d e. rw (d, e) (refl, refl, refl);
}
