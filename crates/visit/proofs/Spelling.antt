-- The steps of a tree are spelled as its bytes with no whole pascals.
use Prim.Native.Nat.{ℕ}
use mathlib.Core.List.{List, [], ◌∷◌, ◌++◌, append-nil, append_assoc}
use mathlib.Core.Path.{◌≡◌, refl, sym, ap, ◌∙◌}
use Rattle.visit.specs.declared.Place.{Place}
use Rattle.visit.specs.declared.Place.TheVariants as place
use Rattle.visit.specs.Steps.{Step, closed, around}
use Rattle.visit.specs.Tree.{Reading, exact, pascals, gone, Group, Groups, of_slot, of_groups, none, more, reading_bytes, framed, inside, in_all, encode, answer_of}
use Rattle.visit.specs.Tree.{steps_in, steps_in_all, steps_of, plain_reading, plain, plain_all}
use Rattle.visit.specs.Writer.{answer_bytes, Frames, onto, frames, bytes_of}

-- ---- bytes

answer-bytes : (p : Place) (r : Reading) → answer_bytes p (answer_of r) ≡ reading_bytes p (plain_reading r)
answer-bytes p (exact v) = refl
answer-bytes p (pascals v) = refl
answer-bytes p (gone n) = refl

-- a group in front of what stands around it
around-frames : (held ss : List Step) (body : List ℕ) → frames (held ++ (closed ∷ ss)) ≡ onto body (frames (closed ∷ ss)) → frames (around held ++ ss) ≡ onto (framed body) (frames ss)
unfolding frames
around-frames held ss body e = rw (append_assoc held (closed ∷ []) ss, e, append-nil body)

onto-onto : (a b : List ℕ) (f : Frames) → onto a (onto b f) ≡ onto (a ++ b) f
onto-onto a b f = rw (append_assoc a b f.inner)

group-then : (held later ss : List Step) (body bytes : List ℕ)
    → frames (held ++ (closed ∷ (later ++ ss))) ≡ onto body (frames (closed ∷ (later ++ ss)))
    → frames (later ++ ss) ≡ onto bytes (frames ss)
    → frames ((around held ++ later) ++ ss) ≡ onto (framed body ++ bytes) (frames ss)
group-then held later ss body bytes e f =
    ap frames (append_assoc (around held) later ss)
    ∙ around-frames held (later ++ ss) body e
    ∙ ap (onto (framed body)) f
    ∙ onto-onto (framed body) bytes (frames ss)

mutual
  unfolding frames inside steps_in plain

  pub frames-in : (g : Group) (ss : List Step) → frames (steps_in g ++ ss) ≡ onto (inside (plain g)) (frames ss)
  frames-in (of_slot time t p h) ss = rw (answer-bytes place.Temperature t, answer-bytes place.Pressure p, answer-bytes place.Humidity h)
  frames-in (of_groups g gs) ss =
      group-then (steps_in g) (steps_in_all gs) ss (inside (plain g)) (in_all (plain_all gs)) (frames-in g (closed ∷ (steps_in_all gs ++ ss))) (frames-all gs ss)

  frames-all : (gs : Groups) (ss : List Step) → frames (steps_in_all gs ++ ss) ≡ onto (in_all (plain_all gs)) (frames ss)
  frames-all none ss = refl
  frames-all (more g gs) ss =
      group-then (steps_in g) (steps_in_all gs) ss (inside (plain g)) (in_all (plain_all gs)) (frames-in g (closed ∷ (steps_in_all gs ++ ss))) (frames-all gs ss)

pub bytes-of : (g : Group) → bytes_of (steps_of g) ≡ encode (plain g)
unfolding frames
bytes-of g =
    ap bytes_of (sym (append-nil (steps_of g)))
    ∙ ap (λ (f : Frames). f.inner) (around-frames (steps_in g) [] (inside (plain g)) (frames-in g (closed ∷ [])))
    ∙ append-nil (encode (plain g))
