-- Steps laid down as words are read back as they were.
use Prim.Native.Nat.{ℕ, zero, suc, ◌*◌, ◌/◌, ◌<◌}
use native.Mathlib.Omega.{arith}
use borrow.Author.Tests.{ne_eqb}
use mathlib.Core.List.{List, [], ◌∷◌, ◌++◌, append-nil, append_assoc}
use mathlib.Core.Path.{◌≡◌, refl, ap}
use lib.ListN.{length, length-append}
use lib.Seq.{drop_at}
use Rattle.std.specs.Prelude.{Ok, Err}
use Rattle.visit.specs.declared.Place.{Place}
use Rattle.visit.specs.declared.Place.TheVariants as place
use Rattle.visit.specs.Steps.{Answer, Step, opened, slotted, closed, stray, around}
use Rattle.visit.specs.Words.{words_each, number_word, value_word, words, words_of, answer_from, step_from, steps_first, from_words}
use Rattle.visit.specs.Tree.{Reading, exact, pascals, gone, Group, Groups, of_slot, of_groups, none, more, Within, Valid, AllValid}
use Rattle.visit.specs.Tree.{answer_of, steps_in, steps_in_all, steps_of}
use Rattle.visit.specs.Kept.{Numbered, AllNumbered, EachNumbered, KeepsSteps}
use Rattle.visit.specs.Records.{Listed}

-- ---- lengths

pub words-length : (s : Step) → length (words s) ≡ words_each
unfolding words
words-length opened = refl
words-length (slotted s) = refl
words-length closed = refl
words-length stray = refl

pub list_length : (ss : List Step) → length (words_of ss) ≡ length ss * words_each
unfolding words_of
list_length [] = refl
list_length (s ∷ ss) = omega (arith, length-append (words s) (words_of ss), words-length s, list_length ss)

-- ---- words say their steps again

answer-again : (a : Answer) → Numbered a → answer_from (number_word a) (value_word a) ≡ a
answer-again (Ok v) h = refl
answer-again (Err a) h = rw (ne_eqb a.number 0 (omega arith))

step-again : (s : Step) (rest : List ℕ) → AllNumbered s → step_from (words s ++ rest) ≡ s
unfolding words step_from
step-again opened rest h = refl
step-again (slotted s) rest k = rw (answer-again s.temperature k.0, answer-again s.pressure k.1.0, answer-again s.humidity k.1.1)
step-again closed rest h = refl
step-again stray rest h = refl

steps-again : (ss : List Step) (rest : List ℕ) → EachNumbered ss → steps_first (length ss) (words_of ss ++ rest) ≡ ss
unfolding words_of steps_first
steps-again [] rest h = refl
steps-again (s ∷ ss) rest h =
    rw (append_assoc (words s) (words_of ss) rest, step-again s (words_of ss ++ rest) h.0, drop_at (words s) (words_of ss ++ rest) words_each (words-length s))
    (ap (λ later. s ∷ later) (steps-again ss rest h.1))

all-again : (ss : List Step) (rest : List ℕ) → EachNumbered ss → length rest < words_each → from_words (words_of ss ++ rest) ≡ ss
all-again ss rest h short =
    let n : length (words_of ss ++ rest) / words_each ≡ length ss = omega (arith, list_length ss, length-append (words_of ss) rest) in
    rw n (steps-again ss rest h)

pub keeps-steps : KeepsSteps
keeps-steps = record { one = step-again; all = all-again }

-- ---- the steps of a tree

reading-numbered : (p : Place) (r : Reading) → Within p r → Numbered (answer_of r)
reading-numbered p (exact v) w = tt
reading-numbered p (pascals v) w = tt
reading-numbered p (gone n) w = omega (arith, w.1.0)

numbered-append : (ss later : List Step) → EachNumbered ss → EachNumbered later → EachNumbered (ss ++ later)
numbered-append [] later h k = k
numbered-append (s ∷ ss) later h k = (h.0, numbered-append ss later h.1 k)

around-numbered : (ss : List Step) → EachNumbered ss → EachNumbered (around ss)
around-numbered ss h = (tt, numbered-append ss (closed ∷ []) h (tt, tt))

mutual
  unfolding steps_in

  in-numbered : (g : Group) (l : ℕ) → Valid g l → EachNumbered (steps_in g)
  in-numbered (of_slot time t p h) l v = ((reading-numbered place.Temperature t v.1.0, (reading-numbered place.Pressure p v.1.1.0, reading-numbered place.Humidity h v.1.1.1)), tt)
  in-numbered (of_groups g gs) zero v = absurd v
  in-numbered (of_groups g gs) (suc l) v = numbered-append (around (steps_in g)) (steps_in_all gs) (around-numbered (steps_in g) (in-numbered g l v.0)) (all-numbered gs l v.1)

  all-numbered : (gs : Groups) (l : ℕ) → AllValid gs l → EachNumbered (steps_in_all gs)
  all-numbered none l v = tt
  all-numbered (more g gs) l v = numbered-append (around (steps_in g)) (steps_in_all gs) (around-numbered (steps_in g) (in-numbered g l v.0)) (all-numbered gs l v.1)

pub listed : Listed
listed g r = rw (← append-nil (words_of (steps_of g))) (all-again (steps_of g) [] (around-numbered (steps_in g) (in-numbered g 3 r.valid)) (omega arith))
