-- The words that follow a place of a line, one by one.
use Prim.Native.Nat.{ℕ, ◌+◌, ◌≤◌, ◌<◌}
use native.Mathlib.Omega.{arith}
use mathlib.Core.Bool.{Bool, true, false, cond}
use mathlib.Core.List.{List, [], ◌∷◌}
use mathlib.Core.Path.{◌≡◌, refl, ap}
use lib.Dec.{eqb}
use lib.ListN.{length, drop, drop_of_length-le, length-drop}
use lib.Seq.{drop-drop}
use Rattle.laws.specs.Rest.{rest}
use Rattle.bench_step.specs.Reading.{before}
use Rattle.bench_step.proofs.Fronts.{within}
use Rattle.bench_visit.specs.Line.{onto, parted, following}

by-test : (P : Bool → Type 0) → P true → P false → (t : Bool) → P t
by-test P p q true = p
by-test P p q false = q

-- by whether the first character is a space
Parted : ℕ → List ℕ → Bool → Type 0
Parted byte s t =
    cond t ([] ∷ parted s) (onto byte (parted s))
    ≡ cond t [] (byte ∷ before 32 s) ∷ following (drop (length (cond t [] (byte ∷ before 32 s))) (byte ∷ s))

first : (s : List ℕ) → parted s ≡ before 32 s ∷ following (drop (length (before 32 s)) s)
unfolding parted before Parted
first [] = refl
first (byte ∷ s) = by-test (Parted byte s) refl (ap (onto byte) (first s)) (eqb byte 32)

pub no_more : (line : List ℕ) (at : ℕ) → length line ≤ at → following (drop at line) ≡ []
no_more line at h = rw (drop_of_length-le line h)

module _ (line : List ℕ) (at : ℕ) (h : at < length line) (word : List ℕ) (e : word ≡ before 32 (drop (at + 1) line)) where
  pub next : following (drop at line) ≡ word ∷ following (drop (at + (1 + length word)) line)
  next =
      let f : at + 1 + length (before 32 (drop (at + 1) line)) ≡ at + (1 + length (before 32 (drop (at + 1) line))) = omega arith in
      rw (rest line at h, first (drop (at + 1) line), drop-drop, f, e)

  pub inside : at + (1 + length word) ≤ length line
  inside = rw e (omega (arith, within 32 (drop (at + 1) line), length-drop (at + 1) line))
