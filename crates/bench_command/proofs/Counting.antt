-- Words counted by the spaces between them.
use Rattle.std.specs.Prelude.{ℕ, suc, ◌+◌, List, [], ◌∷◌, ◌≡◌, refl, length, Bool, true, false, cond}
use Rattle.std.specs.List.{count_by}
use Rattle.std.proofs.Common.{arith}
use Rattle.std.proofs.lemmas.List.Sums.{sum_by-cons}
use Rattle.memchr.specs.Find.{is_byte, places}
use Rattle.memchr.proofs.lemmas.CallerLemmas.{length-places}
use Rattle.bench_command.specs.Words.{count, is_space}

-- the search finds as many places as there are spaces
pub found : (text : List ℕ) → length (places (is_byte 32) text) ≡ count_by is_space text
found text = length-places (is_byte 32) text

one_more : (is : Bool) (m n : ℕ) → m + 1 ≡ n → cond is 1 0 + m + 1 ≡ cond is (suc n) n
one_more true m n e = omega arith
one_more false m n e = omega arith

pub counted : (text : List ℕ) → count_by is_space text + 1 ≡ count text
unfolding count
counted [] = refl
counted (byte ∷ text) =
    rw (sum_by-cons (λ (b : ℕ). cond (is_space b) 1 0) byte text) (one_more (is_space byte) (count_by is_space text) (count text) (counted text))
