-- The front of a lent buffer or list, as a call left it, is the front of the whole again.
use Prim.Native.Nat.{ℕ, ◌≤◌}
use native.Mathlib.Omega.{arith}
use mathlib.Core.List.{List, ◌++◌}
use mathlib.Core.Path.{◌≡◌, ◌∙◌, ap}
use lib.ListN.{length, take, drop, length-append}
use lib.Seq.{length-take-le, take-append_seam}

pub record Back {A : Type 0} (n : ℕ) (whole left : List A) : Type 0 where
  pub within : n ≤ length (left ++ drop n whole)
  pub front : take n (left ++ drop n whole) ≡ left
  pub long : n ≡ length (take n (left ++ drop n whole))

pub back : {A : Type 0} (n : ℕ) (whole left : List A) → n ≤ length whole → length left ≡ length (take n whole) → Back n whole left
back n whole left h k =
    let l : n ≡ length left = omega (arith, k, length-take-le n whole h) in
    let f : take n (left ++ drop n whole) ≡ left = ap (λ (m : ℕ). take m (left ++ drop n whole)) l ∙ take-append_seam left (drop n whole) in
    record { within = rw (length-append left (drop n whole)) (omega (arith, l)); front = f; long = rw f l }
