-- The loop keeps that the rests fit exactly where the row and the line do.
use Prim.Native.Nat.{ℕ, ◌+◌, ◌≤◌, ◌<◌}
use borrow.Author.Tests.{eq-eqb, ne_eqb, le-leb}
use native.Mathlib.Omega.{arith}
use mathlib.Core.Bool.{true, false}
use mathlib.Core.List.{List}
use mathlib.Core.Path.{◌≡◌, sym, ◌∙◌}
use lib.Dec.{eqb, leb}
use lib.ListN.{length, get_or, drop, drop_of_length-le}
use Rattle.laws.specs.Rest.{rest}
use Rattle.bench_command.specs.Arguments.{is_argument}
use Rattle.bench_command.specs.Table.{fits}
use Rattle.bench_command.proofs.rows.fits.Goals as goal

module _ (row line : List ℕ) (i : ℕ) (h : i < length row) where
  at-argument : true ≡ is_argument (get_or row i 0) → true ≡ fits (drop i row) (drop i line)
  unfolding fits
  at-argument e = rw (rest row i h, ← e)

  over : false ≡ is_argument (get_or row i 0) → length line ≤ i → eqb (get_or row i 0) 32 ≡ fits (drop i row) (drop i line)
  unfolding fits
  over e f = rw (rest row i h, ← e, drop_of_length-le line f)

  differs : false ≡ is_argument (get_or row i 0) → i < length line → (get_or row i 0 ≡ get_or line i 0 → ⊥) → false ≡ fits (drop i row) (drop i line)
  unfolding fits
  differs e f g = rw (rest row i h, ← e, rest line i f, ne_eqb (get_or row i 0) (get_or line i 0) g)

  goes_on : false ≡ is_argument (get_or row i 0) → i < length line → get_or row i 0 ≡ get_or line i 0 → fits (drop i row) (drop i line) ≡ fits (drop (i + 1) row) (drop (i + 1) line)
  unfolding fits
  goes_on e f g = rw (rest row i h, ← e, rest line i f, eq-eqb (get_or row i 0) (get_or line i 0) g)

module _ (row line : List ℕ) (i : ℕ) (h : length row ≤ i) where
  both-over : length line ≤ length row → leb (length line) (length row) ≡ fits (drop i row) (drop i line)
  unfolding fits
  both-over f =
      let g : length line ≤ i = omega arith in
      rw (le-leb (length line) (length row) f, drop_of_length-le row h, drop_of_length-le line g)

  row-over : i ≤ length row → length row < length line → eqb (get_or line (length row) 0) 32 ≡ fits (drop i row) (drop i line)
  unfolding fits
  row-over k f =
      let e : length row ≡ i = omega arith in
      let g : i < length line = omega arith in
      rw (drop_of_length-le row h, e, rest line i g)

pub returns-then-is_argument : goal.returns-then-is_argument
returns-then-is_argument c =
    at-argument _ _ _ c.loop-i-test.true (sym c.if-is_argument.true ∙ c.is_argument.ensures) ∙ c.loop-i.invariant

pub returns-then-line-i : goal.returns-then-line-i
returns-then-line-i c =
    over _ _ _ c.loop-i-test.true (sym c.if-is_argument.false ∙ c.is_argument.ensures) c.if-line-i.true ∙ c.loop-i.invariant

pub returns-then-character-line : goal.returns-then-character-line
returns-then-character-line c =
    differs _ _ _ c.loop-i-test.true (sym c.if-is_argument.false ∙ c.is_argument.ensures) c.if-line-i.false c.if-character-line.true
    ∙ c.loop-i.invariant

pub loop-i-preserved : goal.loop-i-preserved
loop-i-preserved c =
    sym (goes_on _ _ _ c.loop-i-test.true (sym c.if-is_argument.false ∙ c.is_argument.ensures) c.if-line-i.false c.if-character-line.false)
    ∙ c.loop-i.invariant

pub returns-then-line-row : goal.returns-then-line-row
returns-then-line-row c = both-over _ _ _ c.loop-i-test.false c.if-line-row.true ∙ c.loop-i.invariant

pub returns-else-line-row : goal.returns-else-line-row
returns-else-line-row c = row-over _ _ _ c.loop-i-test.false c.loop-i.auto.i-end c.if-line-row.false ∙ c.loop-i.invariant
