-- The loop that counts bytes: what is counted and what is left to count are all of them.
use Prim.Native.Nat.{ℕ, ◌+◌, ◌/◌, ◌≤◌, ◌<◌, min}
use mathlib.Core.List.{List}
use mathlib.Core.Path.{◌≡◌, ap, ◌∙◌}
use native.Mathlib.Omega.{arith}
use lib.ListN.{length, drop, drop_of_length-le}
use Rattle.visit.specs.declared.Step.{Step}
use Rattle.visit.specs.Words.{words_each, from_words}
use Rattle.visit_step.specs.Places.{step_at}
use Rattle.visit_bytes.specs.Bytes.{size}
use Rattle.visit_write.specs.Walk.{size_of}
use Rattle.visit_write.proofs.Steps.{count_of, next-step}

pub record Counting (w : List ℕ) (bytes k : ℕ) : Type 0 where
  pub few : bytes ≤ 65535
  pub sum : bytes + size_of (drop k (from_words w)) ≡ size_of (from_words w)

module _ (w : List ℕ) (bytes k : ℕ) (f : Counting w bytes k) where
  module _ (s : Step) (n : ℕ) (h : k < length w / words_each) (e : s ≡ step_at w k) (g : n ≡ size s) where
    pub more-sum : bytes + n + size_of (drop (k + 1) (from_words w)) ≡ size_of (from_words w)
    unfolding size_of
    more-sum =
        let next = ap size_of (next-step w k h) in
        let same : n ≡ size (step_at w k) = g ∙ ap size e in
        omega (arith, f.sum, next, same)

    pub counting-on : bytes + n ≤ 65535 → Counting w (bytes + n) (k + 1)
    counting-on l = record { few = l; sum = more-sum }

    pub too_many : 65535 < bytes + n → 65536 ≡ min (size_of (from_words w)) 65536
    too_many l = omega (arith, more-sum)

  pub counting-end : length w / words_each ≤ k → bytes ≡ min (size_of (from_words w)) 65536
  unfolding size_of
  counting-end h =
      let none = ap size_of (drop_of_length-le (from_words w) {i = k} (omega (arith, count_of w))) in
      omega (arith, f.sum, f.few, none)
