-- What a lent buffer holds after stores at its front.
use mathlib.Core.Path.{◌≡◌, refl, ◌∙◌}
use mathlib.Core.List.{List, [], ◌∷◌, ◌++◌, append_assoc, append-nil}
use Prim.Native.Nat.{ℕ, ◌-◌, ◌≤◌}
use native.Mathlib.Omega.{arith}
use borrow.Author.Rules.{part_to_end}
use borrow.Rule.Slice.PartMut.{put_mid}
use lib.ListN.{length, take, drop, set, length-append, length-drop, drop_of_length-le}
use Rattle.bus.specs.Lent.{laid_over}
use lib.Seq.{drop-drop, take-append_seam, drop-append_seam}

pub one-stored : (l : List ℕ) (a : ℕ) → 1 ≤ length l → set l 0 a ≡ laid_over (a ∷ []) l
one-stored [] a h = absurd (omega arith)
one-stored (x ∷ l) a h = refl

pub three-stored : (l : List ℕ) (a b d : ℕ) → 3 ≤ length l → set (set (set l 0 a) 1 b) 2 d ≡ laid_over (a ∷ b ∷ d ∷ []) l
three-stored [] a b d h = absurd (omega arith)
three-stored (x ∷ []) a b d h = absurd (omega arith)
three-stored (x ∷ y ∷ []) a b d h = absurd (omega arith)
three-stored (x ∷ y ∷ z ∷ l) a b d h = refl

-- a head is written, and then a tail through the part of the buffer after it
module _ (head tail lent₁ lent : List ℕ) (k : ℕ) (p : k ≡ length head) (led : lent₁ ≡ laid_over head lent) where
  part-after : take (length lent₁ - k) (drop k lent₁) ≡ drop (length head) lent
  part-after = part_to_end lent₁ k ∙ rw (led, p) (drop-append_seam head (drop (length head) lent))

  pub head-within : k ≤ length lent₁
  head-within = rw (led, length-append) (omega arith)

  pub part_room : length (head ++ tail) ≤ length lent → length tail ≤ length (take (length lent₁ - k) (drop k lent₁))
  part_room h = rw (part-after, length-drop) (omega (arith, rw length-append at h))

  pub head-and-tail :
      (part : List ℕ) → part ≡ laid_over tail (take (length lent₁ - k) (drop k lent₁)) →
      put_mid k (length lent₁ - k) lent₁ part ≡ laid_over (head ++ tail) lent
  head-and-tail part e =
      let front : take k lent₁ ≡ head = rw (led, p) (take-append_seam head (drop (length head) lent)) in
      let rest : drop (length lent₁ - k) (drop k lent₁) ≡ [] = drop_of_length-le (drop k lent₁) {i = length lent₁ - k} (rw length-drop (omega arith)) in
      let filled : part ≡ laid_over tail (drop (length head) lent) = e ∙ rw part-after in
      rw (front, rest, filled, append-nil, append_assoc, drop-drop, length-append)
