-- A text that the page has room for stands on it from the place on, and every other byte stays.
use Rattle.std.specs.Prelude.{ℕ, ◌+◌, ◌≤◌, ◌<◌, List, [], ◌∷◌, ◌++◌, ◌≡◌, length, take, drop, set}
use Rattle.std.proofs.Common.{arith, add-one, lt-ltb, ap, ◌∙◌, length-set}
use Rattle.std.proofs.lemmas.List.Edits.{sets, sets-eq}
use Rattle.bench_page.specs.Page.{written_byte, written}

one : (b at : ℕ) (xs : List ℕ) → at < length xs → written_byte b (xs, at) ≡ (set xs at b, at + 1)
unfolding written_byte
one b at xs h = rw (lt-ltb at (length xs) h)

laid : (text : List ℕ) (at : ℕ) (xs : List ℕ) → at + length text ≤ length xs → written text (xs, at) ≡ (sets xs at text, at + length text)
unfolding written
laid [] at xs h =
    let e : at ≡ at + 0 = omega arith in
    ap (λ (n : ℕ). (xs, n)) e
laid (b ∷ rest) at xs h =
    let f : at + 1 + length rest ≤ length (set xs at b) = simp length-set (omega arith) in
    let e : at + 1 + length rest ≡ at + length (b ∷ rest) = omega arith in
    ap (written rest) (one b at xs (omega arith)) ∙ laid rest (at + 1) (set xs at b) f ∙ rw (e, add-one)

pub stands :
    (text : List ℕ) (at : ℕ) (xs : List ℕ) → at + length text ≤ length xs
    → written text (xs, at) ≡ (take at xs ++ text ++ drop (at + length text) xs, at + length text)
stands text at xs h = laid text at xs h ∙ rw (sets-eq text xs at)
