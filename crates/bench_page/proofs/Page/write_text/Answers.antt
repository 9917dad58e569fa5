-- One byte on, and at the text's end.
use Prim.Native.Nat.{ℕ, ◌≤◌, ◌<◌, ◌+◌}
use mathlib.Core.List.{List, [], ◌∷◌}
use mathlib.Core.Path.{◌≡◌}
use lib.ListN.{length, get_or, drop, drop_of_length-le}
use Rattle.laws.specs.Rest.{rest}
use Rattle.bench_page.specs.declared.Page.{Page}
use Rattle.bench_page.specs.Page.{written, ◌▹◌}
use Rattle.bench_page.proofs.Page.write_text.Goals as goal

one_more :
    (text : List ℕ) (i : ℕ) (p q whole : Page) → i < length text → q ≡ p ▹ get_or text i 0 ∷ [] → p ▹ drop i text ≡ whole → q ▹ drop (i + 1) text ≡ whole
unfolding written
one_more text i p q whole h e f = rw e (rw (rest text i h) at f)

all : (text : List ℕ) (i : ℕ) (p whole : Page) → length text ≤ i → p ▹ drop i text ≡ whole → p ≡ whole
unfolding written
all text i p whole h f = rw (drop_of_length-le text h) at f

pub loop-byte-preserved : goal.loop-byte-preserved
loop-byte-preserved c = one_more _ _ _ _ _ c.loop-byte-test.true c.write_byte.ensures c.loop-byte.invariant

pub returns : goal.returns
returns c = all _ _ _ _ c.loop-byte-test.false c.loop-byte.invariant
