-- What is proved of reading and of writing, stated over any functions that are lent a list or a buffer (proofs/Records.antt, proofs/Trips.antt).
-- The trees of specs/Tree.antt judge them: no part of the reader or of the writer is cited.
use Rattle.std.specs.Prelude.{ℕ, ◌*◌, ◌/◌, ◌≤◌, ◌<◌, List, [], ◌∷◌, ◌++◌, ◌≡◌, length, take, drop}
use Rattle.visit.specs.Tags as tag
use Rattle.visit.specs.Words.{words_each, words_of, from_words}
use Rattle.visit.specs.Tree.{Group, Valid, IsRecord, Bytes, encode, steps_of, plain}
use Rattle.paper.specs.Numbers as no
use Rattle.paper.specs.Answers.{Answer, given, refused}

-- what is handed back, and what the lent list or buffer holds then
abbrev pub Call : Type 0
Call = List ℕ → List ℕ → Answer × List ℕ

-- the output stands at the front of what is lent, and past it what was there
abbrev pub laid_over : List ℕ → List ℕ → List ℕ
laid_over output lent = output ++ drop (length output) lent

-- done, with the number of steps or bytes
abbrev pub handed : ℕ → List ℕ → List ℕ → Answer × List ℕ
handed count output lent = (given (count ∷ []), laid_over output lent)

-- ---- reading

-- the bytes are those of a record
pub record RecordBytes (s : List ℕ) : Type 0 where
  pub group : Group
  pub is-record : IsRecord group
  pub bytes : s ≡ encode group

-- exactly the bytes of records are read, tag 5 included, and each as the steps of its tree
pub record ReadsRecords (reads : Call) : Type 0 where
  pub reads_all :
      (g : Group) (lent : List ℕ) → IsRecord g → length (steps_of g) ≤ length lent / words_each
      → reads (encode g) lent ≡ handed (length (steps_of g)) (words_of (steps_of g)) lent
  pub reads_only : (s lent : List ℕ) → Bytes s → (reads s lent).0.number ≡ no.done → RecordBytes s
  pub short-list :
      (g : Group) (lent : List ℕ) → IsRecord g → length lent / words_each < length (steps_of g)
      → reads (encode g) lent ≡ (refused no.buffer_too_short, lent)
  pub too_long : (s lent : List ℕ) → tag.most_bytes < length s → reads s lent ≡ (refused no.wrong_length, lent)
  pub refusal-leaves : (s lent : List ℕ) → ((reads s lent).0.number ≡ no.done → ⊥) → (reads s lent).1 ≡ lent

-- ---- writing

-- the list's steps are those of a record, in which no pressure is in whole pascals
pub record RecordSteps (words : List ℕ) : Type 0 where
  pub group : Group
  pub is-record : IsRecord group
  pub is_plain : plain group ≡ group
  pub steps : from_words words ≡ steps_of group

-- exactly the steps of records are written, each as the bytes of its tree
pub record WritesRecords (writes : Call) : Type 0 where
  pub writes-all :
      (g : Group) (words lent : List ℕ) → IsRecord g → from_words words ≡ steps_of g → length (encode (plain g)) ≤ length lent
      → writes words lent ≡ handed (length (encode (plain g))) (encode (plain g)) lent
  pub writes-only : (words lent : List ℕ) → (writes words lent).0.number ≡ no.done → RecordSteps words
  pub short-buffer :
      (g : Group) (words lent : List ℕ) → IsRecord g → from_words words ≡ steps_of g → length lent < length (encode (plain g))
      → writes words lent ≡ (refused no.buffer_too_short, lent)
  pub too_long :
      (g : Group) (words lent : List ℕ) → Valid g 3 → from_words words ≡ steps_of g → tag.most_bytes < length (encode (plain g))
      → writes words lent ≡ (refused no.wrong_length, lent)
  pub refusal-leaves : (words lent : List ℕ) → ((writes words lent).0.number ≡ no.done → ⊥) → (writes words lent).1 ≡ lent

-- the steps of a record stand in a list, so that none of this is said of lists that there are not
abbrev pub Listed : Type 0
Listed = (g : Group) → IsRecord g → from_words (words_of (steps_of g)) ≡ steps_of g

-- ---- the round trips, which follow for any two that meet these statements

-- a record that was read, and what was written of the list that it was read into: the same bytes, tag 5 apart, for which it is the same record
-- with that field as tag 4 times 256
pub record Again (writes : Call) (s words out : List ℕ) : Type 0 where
  pub group : Group
  pub bytes : s ≡ encode group
  pub again : writes words out ≡ handed (length s) (encode (plain group)) out
  pub same : plain group ≡ group → writes words out ≡ handed (length s) s out

pub record RoundTrips (reads writes : Call) : Type 0 where
  -- written then read is the same visit
  pub written-then-read :
      (words out lent : List ℕ) (n : ℕ) → (writes words out).0 ≡ given (n ∷ []) → length (from_words words) ≤ length lent / words_each
      → reads (take n (writes words out).1) lent ≡ handed (length (from_words words)) (words_of (from_words words)) lent
  -- read then written, from the list that the reader filled
  pub read-then-written :
      (s lent out : List ℕ) (n : ℕ) → Bytes s → (reads s lent).0 ≡ given (n ∷ []) → length s ≤ length out
      → Again writes s (take (n * words_each) (reads s lent).1) out

-- ---- how long a list has to be at most: 7 steps for each 31 bytes

abbrev pub MostSteps : Type 0
MostSteps = (g : Group) → IsRecord g → length (steps_of g) ≤ tag.most_steps
