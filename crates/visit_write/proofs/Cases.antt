-- The cases of the writer's answer, in the order of its numbers.
use Prim.Native.Nat.{ℕ, ◌≤◌, ◌<◌, min}
use mathlib.Core.List.{List, [], ◌∷◌, ◌++◌}
use mathlib.Core.Path.{◌≡◌, ap, ◌∙◌}
use native.Mathlib.Omega.{arith}
use borrow.Author.Tests.{lt-ltb, le-ltb}
use lib.ListN.{length, drop}
use Rattle.paper.specs.Answers.{Answer, given, refused}
use Rattle.paper.specs.Numbers as no
use Rattle.visit.specs.declared.Stage.TheVariants as stage
use Rattle.visit.specs.declared.Step.{Step}
use Rattle.visit.specs.Tags as tag
use Rattle.visit.specs.Words.{from_words}
use Rattle.visit.specs.Writer.{Checked, fine, checked, bytes_of}
use Rattle.visit.specs.Lent.{write_by, write_steps, write_into}
use Rattle.visit_write.specs.Walk.{size_of}
use Rattle.visit_write.proofs.Frames.{bytes-length}

pub all-counted : (ss : List Step) (total : ℕ) → checked stage.Start ss 0 ≡ fine → total ≡ min (size_of ss) 65536 → total ≤ tag.most_bytes
    → total ≡ length (bytes_of ss)
all-counted ss total fits counted h = omega (arith, bytes-length ss fits)

module _ (ss : List Step) (lent : List ℕ) (total : ℕ) (fits : checked stage.Start ss 0 ≡ fine) (counted : total ≡ min (size_of ss) 65536) where
  pub too_long : tag.most_bytes < total → (refused no.wrong_length, lent) ≡ write_by fine (bytes_of ss) lent
  too_long h = rw (lt-ltb tag.most_bytes (length (bytes_of ss)) (omega (arith, bytes-length ss fits)))

  pub no_room : total ≤ tag.most_bytes → length lent < total → (refused no.buffer_too_short, lent) ≡ write_by fine (bytes_of ss) lent
  no_room h r =
      let e = all-counted ss total fits counted h in
      rw (le-ltb tag.most_bytes (length (bytes_of ss)) (omega arith), lt-ltb (length lent) (length (bytes_of ss)) (omega arith))

  pub all-written : (after : List ℕ) → total ≤ tag.most_bytes → total ≤ length lent → after ≡ bytes_of ss ++ drop total lent
      → (given (total ∷ []), after) ≡ write_by fine (bytes_of ss) lent
  all-written after h r o =
      let e = all-counted ss total fits counted h in
      rw (le-ltb tag.most_bytes (length (bytes_of ss)) (omega arith), le-ltb (length lent) (length (bytes_of ss)) (omega arith), o, e)

module _ (w lent : List ℕ) where
  pub by-checks : (found : Checked) (answer : Answer) (after : List ℕ) → found ≡ checked stage.Start (from_words w) 0
      → (answer, after) ≡ write_by found (bytes_of (from_words w)) lent → (answer, after) ≡ write_into w lent
  unfolding write_into write_steps
  by-checks found answer after e h = h ∙ ap (λ (c : Checked). write_by c (bytes_of (from_words w)) lent) e
