-- The pairs of all where there are any, one pair on, and at the end.
use Prim.Native.Nat.{ℕ, ◌+◌, ◌≤◌, ◌<◌}
use native.Mathlib.Omega.{arith}
use lib.Dec.{eqb}
use mathlib.Core.Bool.{Bool, true, false}
use mathlib.Core.List.{List, [], ◌∷◌}
use mathlib.Core.Path.{◌≡◌}
use lib.ListN.{length, get_or, drop, drop_of_length-le}
use Rattle.laws.specs.Rest.{rest}
use Rattle.bench_page.specs.declared.Page.{Page}
use Rattle.bench_page.specs.Page.{written, ◌▹◌}
use Rattle.bench_page.specs.Digits.{pair, pairs, shown}
use Rattle.bench_page.proofs.Laws.{written-append}
use Rattle.bench_page.proofs.Page.write_bytes.Goals as goal
use Rattle.bench_page.proofs.Page.write_bytes.Goals.{then-is_empty, else-is_empty}

module _ (p q : Page) (is : Bool) where
  none : (s : Page) (bytes : List ℕ) → is ≡ eqb (length bytes) 0 → is ≡ true → s ≡ p ▹ 45 ∷ [] → q ≡ s → q ▹ pairs bytes ≡ p ▹ shown bytes
  unfolding written pairs shown
  none s [] h e f g = rw f at g
  none s (b ∷ bytes) h e f g = absurd (grind (arith, h, e))

  some : (bytes : List ℕ) → is ≡ eqb (length bytes) 0 → is ≡ false → q ≡ p → q ▹ pairs bytes ≡ p ▹ shown bytes
  unfolding shown
  some bytes h e f = rw (f, ← h, e)

one_more :
    (bytes : List ℕ) (i : ℕ) (p q whole : Page) → i < length bytes → q ≡ p ▹ pair (get_or bytes i 0)
    → p ▹ pairs (drop i bytes) ≡ whole → q ▹ pairs (drop (i + 1) bytes) ≡ whole
unfolding pairs
one_more bytes i p q whole h e f = rw e (rw (rest bytes i h, written-append) at f)

all : (bytes : List ℕ) (i : ℕ) (p whole : Page) → length bytes ≤ i → p ▹ pairs (drop i bytes) ≡ whole → p ≡ whole
unfolding written pairs
all bytes i p whole h f = rw (drop_of_length-le bytes h) at f

pub loop-byte-init : goal.loop-byte-init
loop-byte-init c = elim c.if-is_empty.branch [
  | then-is_empty w ↦ none _ _ _ _ _ c.is_empty.ensures w.if-is_empty.true w.write_byte.ensures w.self-is
  | else-is_empty w ↦ some _ _ _ _ c.is_empty.ensures w.if-is_empty.false w.self-is
]

pub loop-byte-preserved : goal.loop-byte-preserved
loop-byte-preserved c = one_more _ _ _ _ _ c.loop-byte-test.true c.write_pair.ensures c.loop-byte.invariant

pub returns : goal.returns
returns c = all _ _ _ _ c.loop-byte-test.false c.loop-byte.invariant
