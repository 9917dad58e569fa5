-- A formula in plain arithmetic: no step leaves its width where the bounds of its operands, multiplied and added, stay
-- below the width's. Each law takes an operation's operands as the work that gives them and their bounds, and gives the
-- step's; a proof is the maker's line again.
use Prim.Native.Nat.{ℕ, zero, suc, ◌+◌, ◌-◌, ◌*◌, ◌/◌, ◌^◌, ◌≤◌, ◌<◌}
use mathlib.Core.Path.{◌≡◌, refl, ap, ◌∙◌}
use mathlib.Core.Bool.{Bool, true, false, cond}
use native.Mathlib.Omega.{arith}
use native.Mathlib.Nat.{le_trans, le_refl, le-suc, mul-le-mul, le-div_iff_mul-le, div-mul-le_self}
use lib.Pow.{pow_pos}
use lib.Dec.{ltb, leb}
use lib.IntN.{ℤ, pos, negsuc, neg_ℤ, nat_abs, sub_ℕ, ◌+ℤ◌, ◌-ℤ◌, ◌*ℤ◌}
use lib.Signed.{mag, shr_z, quot_z}
use mir.Syntax.{Width, w16, w32, w64}
use mir.Val.{SFits, to_z, of_z}
use mir.Facts.{to_z-of_z}
use borrow.Author.Tests.{ltb-true, ltb-false, leb-true, lt-ltb}
use Rattle.std.proofs.lemmas.Int.{unsigned_abs-mul}
use Rattle.std.specs.Prelude.{Ok, Err}
use Rattle.paper.specs.Numbers as no
use Rattle.paper.specs.Answers.{missing}
use Rattle.steps.specs.declared.Signed.{Signed}
use Rattle.steps.specs.declared.Signed.TheVariants.{Bits32, Bits64}
use Rattle.steps.specs.Step.{half_bits, kept, on_value, on_values, is_nonzero}
use Rattle.steps.specs.Work.{Work, given, num, step₁, step₂, share, test, run}
use Rattle.formula.specs.Plain.{Gives}

-- ---- sizes

abs_neg : (x : ℤ) → nat_abs (neg_ℤ x) ≡ nat_abs x
abs_neg (pos zero) = refl
abs_neg (pos (suc n)) = refl
abs_neg (negsuc n) = refl

pub split : (a b : ℕ) (P : ℤ → Type 0) → (a < b → P (negsuc (b - suc a))) → (b ≤ a → P (pos (a - b))) → P (sub_ℕ a b)
split a b P f g = go (ltb a b) refl
  where
    go : (t : Bool) → ltb a b ≡ t → P (sub_ℕ a b)
    go true e = rw e (f (ltb-true a b e))
    go false e = rw e (g (ltb-false a b e))

abs-apart : (a b : ℕ) → nat_abs (sub_ℕ a b) ≤ a + b
abs-apart a b = split a b (λ z. nat_abs z ≤ a + b) (λ l. omega arith) (λ l. omega arith)

abs-plus : (x y : ℤ) → nat_abs (x +ℤ y) ≤ nat_abs x + nat_abs y
abs-plus (pos a) (pos b) = omega arith
abs-plus (pos a) (negsuc b) = abs-apart a (suc b)
abs-plus (negsuc a) (pos b) = let h = abs-apart b (suc a) in omega arith
abs-plus (negsuc a) (negsuc b) = omega arith

abs-minus : (x y : ℤ) → nat_abs (x -ℤ y) ≤ nat_abs x + nat_abs y
abs-minus x y = let h = abs-plus x (neg_ℤ y) in let e = abs_neg y in omega arith

floor-le : {a b : ℕ} (k : ℕ) → a ≤ b → a / 2 ^ k ≤ b / 2 ^ k
floor-le {a} {b} k h = (le-div_iff_mul-le (pow_pos k)).1 (le_trans (div-mul-le_self a (2 ^ k)) h)

abs-down : (x : ℤ) (k : ℕ) → nat_abs (shr_z x (2 ^ k)) ≤ suc (nat_abs x / 2 ^ k)
abs-down (pos a) k = le-suc (a / 2 ^ k)
abs-down (negsuc a) k = let h : a / 2 ^ k ≤ suc a / 2 ^ k = floor-le k (le-suc a) in omega arith

abs-over : (x y : ℤ) → nat_abs (quot_z x y) ≡ nat_abs x / nat_abs y
abs-over (pos a) (pos b) = refl
abs-over (pos a) (negsuc b) = abs_neg (pos (a / suc b))
abs-over (negsuc a) (pos b) = abs_neg (pos (suc a / b))
abs-over (negsuc a) (negsuc b) = refl

mag-le : (z : ℤ) → mag z ≤ nat_abs z
mag-le (pos n) = omega arith
mag-le (negsuc n) = omega arith

half_le : (w : Signed) → 2 ^ half_bits w ≤ 2 ^ 63
half_le Bits32 = omega arith
half_le Bits64 = omega arith

-- ---- a number that the machine holds

-- as the code reads it back from its bits
abbrev pub local : ℤ → ℤ
local z = to_z w64 (of_z w64 z)

module _ {w : Signed} {n : ℕ} {e : Work} {z : ℤ} (p : Gives w n e z) where
  pub fit : SFits w64 z
  fit =
      let k = mag-le z in
      let s = p.size in
      let r = p.room in
      let l = half_le w in
      record { sfits = omega arith }

  pub back : local z ≡ z
  back = to_z-of_z fit

  -- what a function hands back, under a bound of its contract
  pub within : (m : ℕ) → leb n m ≡ true → ltb m (2 ^ half_bits w) ≡ true → Gives w m e (local z)
  within m t u =
      let s = p.size in
      let l = leb-true n m t in
      rw back (record { is = p.is; size = omega arith; room = ltb-true m (2 ^ half_bits w) u })

  -- the number itself, in the work's place
  pub value : Gives w n (given z) z
  unfolding run
  value = record { is = refl; size = p.size; room = p.room }

  -- work that goes on from it
  pub onto : {m : ℕ} {x : ℤ} {f : ℤ → Work} → Gives w m (f z) x → Gives w m (share e f) x
  unfolding run on_value
  onto q = record { is = rw p.is q.is; size = q.size; room = q.room }

  pub passing : (t : ℤ → Bool) (k : ℕ) → t z ≡ true → Gives w n (test t k e) z
  unfolding run on_value
  passing t k h = record { is = rw (p.is, h); size = p.size; room = p.room }

-- a number of 32 bits fits the machine's too
pub fit32 : {n : ℕ} {e : Work} {z : ℤ} → Gives Bits32 n e z → SFits w32 z
fit32 {z = z} p =
    let k = mag-le z in
    let s = p.size in
    let r = p.room in
    record { sfits = omega arith }

-- and it is one of 64 bits, whatever gave it
pub wider : {n : ℕ} {e : Work} {z : ℤ} → Gives Bits32 n e z → Gives Bits64 n (given z) z
unfolding run
wider p = let r = p.room in record { is = refl; size = p.size; room = omega arith }

-- ---- what comes in

pub plainly : {w : Signed} {n : ℕ} {z : ℤ} → nat_abs z ≤ n → ltb n (2 ^ half_bits w) ≡ true → Gives w n (given z) z
unfolding run
plainly {w} {n} h t = record { is = refl; size = h; room = ltb-true n (2 ^ half_bits w) t }

-- a number of some width of the machine, as the code reads it
abbrev pub Read : Signed → Width → ℕ → ℤ → Type 0
Read w v n z = Gives w n (given z) (to_z v (of_z v z))

pub word : {w : Signed} {v : Width} {n : ℕ} {z : ℤ} → SFits v z → nat_abs z ≤ n → ltb n (2 ^ half_bits w) ≡ true → Read w v n z
word f h t = rw (to_z-of_z f) (plainly h t)

-- any number of 16 bits
pub word16 : {w : Signed} {z : ℤ} → SFits w16 z → ltb 32768 (2 ^ half_bits w) ≡ true → Read w w16 32768 z
word16 {z = pos n} f t = let h = f.sfits in word f (omega arith) t
word16 {z = negsuc n} f t = let h = f.sfits in word f (omega arith) t

pub natural : {w : Signed} {m : ℕ} (n : ℕ) → n ≤ m → ltb m (2 ^ half_bits w) ≡ true → Gives w m (num n) (pos n)
natural n h t = plainly h t

pub literal : {w : Signed} (n : ℕ) → ltb n (2 ^ half_bits w) ≡ true → Gives w n (num n) (pos n)
literal n t = plainly (le_refl n) t

-- ---- the operations

-- a step whose result is z
step : {w : Signed} {n : ℕ} (e : Work) (z : ℤ) → run w e ≡ kept w z → nat_abs z ≤ n → ltb n (2 ^ half_bits w) ≡ true → Gives w n e z
step {w} {n} e z h s t =
    let r = ltb-true n (2 ^ half_bits w) t in
    let k = mag-le z in
    record { is = h ∙ ap (λ (b : Bool). cond b (Ok z) (Err (missing no.left_its_type))) (lt-ltb (mag z) (2 ^ half_bits w) (omega arith)); size = s; room = r }

module _ {w : Signed} {m : ℕ} {a : Work} {x : ℤ} (p : Gives w m a x) where
  one : {k : ℕ} (f : ℤ → ℤ) → nat_abs (f x) ≤ k → ltb k (2 ^ half_bits w) ≡ true → Gives w k (step₁ f a) (f (local x))
  unfolding run on_value
  one f s t = rw (back p) (step (step₁ f a) (f x) (rw p.is) s t)

  pub up : (k : ℕ) → ltb (m * 2 ^ k) (2 ^ half_bits w) ≡ true → Gives w (m * 2 ^ k) (step₁ (λ x. x *ℤ pos (2 ^ k)) a) (local x *ℤ pos (2 ^ k))
  up k t = one (λ x. x *ℤ pos (2 ^ k)) (rw unsigned_abs-mul (mul-le-mul p.size (le_refl (2 ^ k)))) t

  pub down : (k : ℕ) → ltb (suc (m / 2 ^ k)) (2 ^ half_bits w) ≡ true → Gives w (suc (m / 2 ^ k)) (step₁ (λ x. shr_z x (2 ^ k)) a) (shr_z (local x) (2 ^ k))
  down k t =
      let h = abs-down x k in
      let l : nat_abs x / 2 ^ k ≤ m / 2 ^ k = floor-le k p.size in
      one (λ x. shr_z x (2 ^ k)) (omega arith) t

-- an unsigned number shifted down, which it may be before it fits
pub floored : {w : Signed} {m : ℕ} (n k : ℕ) → n / 2 ^ k ≤ m → ltb m (2 ^ half_bits w) ≡ true → Gives w m (step₁ (λ x. shr_z x (2 ^ k)) (num n)) (pos (n / 2 ^ k))
unfolding run on_value
floored n k h t = step (step₁ (λ x. shr_z x (2 ^ k)) (num n)) (pos (n / 2 ^ k)) refl h t

module _ {w : Signed} {m n : ℕ} {a b : Work} {x y : ℤ} (p : Gives w m a x) (q : Gives w n b y) where
  two : {k : ℕ} (f : ℤ → ℤ → ℤ) → nat_abs (f x y) ≤ k → ltb k (2 ^ half_bits w) ≡ true → Gives w k (step₂ f a b) (f (local x) (local y))
  unfolding run on_values on_value
  two f s t = rw (back p, back q) (step (step₂ f a b) (f x y) (rw (p.is, q.is)) s t)

  pub times : ltb (m * n) (2 ^ half_bits w) ≡ true → Gives w (m * n) (step₂ ◌*ℤ◌ a b) (local x *ℤ local y)
  times t = two ◌*ℤ◌ (rw unsigned_abs-mul (mul-le-mul p.size q.size)) t

  -- a product that was tested
  pub times-within : (k : ℕ) → nat_abs (x *ℤ y) ≤ k → ltb k (2 ^ half_bits w) ≡ true → Gives w k (step₂ ◌*ℤ◌ a b) (local x *ℤ local y)
  times-within k s t = two ◌*ℤ◌ s t

  pub plus : ltb (m + n) (2 ^ half_bits w) ≡ true → Gives w (m + n) (step₂ ◌+ℤ◌ a b) (local x +ℤ local y)
  plus t =
      let h = abs-plus x y in
      let i = p.size in
      let j = q.size in
      two ◌+ℤ◌ (omega arith) t

  pub minus : ltb (m + n) (2 ^ half_bits w) ≡ true → Gives w (m + n) (step₂ ◌-ℤ◌ a b) (local x -ℤ local y)
  minus t =
      let h = abs-minus x y in
      let i = p.size in
      let j = q.size in
      two ◌-ℤ◌ (omega arith) t

  -- a difference whose size is known
  pub minus-within : (k : ℕ) → nat_abs (x -ℤ y) ≤ k → ltb k (2 ^ half_bits w) ≡ true → Gives w k (step₂ ◌-ℤ◌ a b) (local x -ℤ local y)
  minus-within k s t = two ◌-ℤ◌ s t

-- ---- division by what is far from zero

pub far-is : (y : ℤ) {l : ℕ} → 0 < l → l ≤ nat_abs y → is_nonzero y ≡ true
far-is (pos zero) h k = absurd (impossible h k)
  where
    impossible : {l : ℕ} → 0 < l → l ≤ 0 → ⊥
    impossible h k = omega arith
far-is (pos (suc n)) h k = refl
far-is (negsuc n) h k = refl

module _ {w : Signed} {m n : ℕ} {a b : Work} {x y : ℤ} (p : Gives w m a x) (q : Gives w n b y) (l : ℕ) (h : 0 < l) (k : l ≤ nat_abs y) where
  pub over : ltb (m / l) (2 ^ half_bits w) ≡ true → Gives w (m / l) (step₂ quot_z a (test is_nonzero no.divisor_zero b)) (quot_z (local x) (local y))
  over t =
      two p (passing q is_nonzero no.divisor_zero (far-is y h k)) quot_z
      (rw abs-over ((le-div_iff_mul-le h).1 (le_trans (mul-le-mul (le_refl (nat_abs x / nat_abs y)) k) (le_trans (div-mul-le_self (nat_abs x) (nat_abs y)) p.size))))
      t
