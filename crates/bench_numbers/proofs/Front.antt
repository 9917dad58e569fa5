-- Where the word that a text begins with ends.
use Rattle.std.specs.Prelude.{ℕ, zero, suc, ◌≤◌, ◌<◌, ◌≢◌, List, [], ◌∷◌, ◌≡◌, length, get_or, take}
use Rattle.std.proofs.Common.{arith, refl, ap, eq-eqb, ne_eqb}
use Rattle.bench_numbers.specs.Words.{word}

pub front : (s : List ℕ) (end : ℕ) → end ≤ length s → ((k : ℕ) → k < end → get_or s k 0 ≢ 32) → (end < length s → get_or s end 0 ≡ 32) → take end s ≡ word s
unfolding word
front [] zero h before found = refl
front [] (suc end) h before found = absurd (omega arith)
front (byte ∷ s) zero h before found = rw (eq-eqb byte 32 (found (omega arith)))
front (byte ∷ s) (suc end) h before found =
    rw (ne_eqb byte 32 (before 0 (omega arith)))
    (ap (λ (rest : List ℕ). byte ∷ rest) (front s end (omega arith) (λ k l. before (suc k) (omega arith)) (λ l. found (omega arith))))
