-- What is left of a form, one byte on and at its end.
use Prim.Native.Nat.{ℕ, ◌+◌, ◌≤◌, ◌<◌}
use mathlib.Core.List.{List}
use mathlib.Core.Path.{◌≡◌}
use lib.ListN.{length, get_or, drop, drop_of_length-le}
use Rattle.laws.specs.Rest.{rest}
use Rattle.bench_page.specs.declared.Page.{Page}
use Rattle.bench_page.specs.Page.{written, ◌▹◌}
use Rattle.bench_page.proofs.Laws.{written-append}
use Rattle.bench_row.specs.Row.{filled_from, after}

module _ {A : Type 0} (shown : ℕ → A → List ℕ) (none : A) (form : List ℕ) (numbers : List A) (i k : ℕ) (p whole : Page) where
  pub one_more :
      (l : ℕ) (a : A) (q : Page) → i < length form → a ≡ get_or numbers k none → q ≡ p ▹ shown (get_or form i 0) a
      → l ≡ after (get_or form i 0) k → p ▹ filled_from shown none (drop i form) numbers k ≡ whole
      → q ▹ filled_from shown none (drop (i + 1) form) numbers l ≡ whole
  unfolding filled_from
  one_more l a q h d e n f = rw (e, d, n) (rw (rest form i h, written-append) at f)

  pub all : length form ≤ i → p ▹ filled_from shown none (drop i form) numbers k ≡ whole → p ≡ whole
  unfolding filled_from written
  all h f = rw (drop_of_length-le form h) at f
