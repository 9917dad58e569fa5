-- What a call gives and what it leaves in the lent list or buffer: nothing but 0 writes, and what stands past the output stays.
use Rattle.std.specs.Prelude.{ℕ, ◌*◌, ◌/◌, cond, List, [], ◌∷◌, ◌++◌, ltb, length, drop}
use Rattle.visit.specs.declared.Stage.TheVariants as stage
use Rattle.visit.specs.Steps.{Step}
use Rattle.visit.specs.Tags as tag
use Rattle.visit.specs.Words.{words_each, words_of, from_words}
use Rattle.visit.specs.Reader.{Read, read, read_record}
use Rattle.visit.specs.Reader.{refused as refused_at}
use Rattle.visit.specs.Writer.{Checked, fine, wrong, checked, bytes_of}
use Rattle.paper.specs.Numbers as no
use Rattle.paper.specs.Answers.{Answer, given, refused}

-- a number with an offset or a step's place
abbrev pub number_at : ℕ → ℕ → Answer
number_at number place = record { number = number; values = place ∷ [] }

-- ---- reading: the words of the steps at the front of the lent list

-- 9 comes last
abbrev pub read_by : Read → List ℕ → Answer × List ℕ
read_by (read steps) lent =
    cond (ltb (length lent / words_each) (length steps)) (refused no.buffer_too_short, lent)
    (given (length steps ∷ []), words_of steps ++ drop (length steps * words_each) lent)
read_by (refused_at number offset) lent = (number_at number offset, lent)

-- over 65,535 bytes gives 2 first
unfoldable pub read_into : List ℕ → List ℕ → Answer × List ℕ
read_into bytes lent =
    cond (ltb tag.most_bytes (length bytes)) (refused no.wrong_length, lent) (read_by (read_record bytes) lent)

-- ---- writing: the bytes of the record at the front of the lent buffer

-- each step's checks come first, then 2, then 9
abbrev pub write_by : Checked → List ℕ → List ℕ → Answer × List ℕ
write_by fine bytes lent =
    cond (ltb tag.most_bytes (length bytes)) (refused no.wrong_length, lent)
    (cond (ltb (length lent) (length bytes)) (refused no.buffer_too_short, lent)
    (given (length bytes ∷ []), bytes ++ drop (length bytes) lent))
write_by (wrong number place) bytes lent = (number_at number place, lent)

unfoldable pub write_steps : List Step → List ℕ → Answer × List ℕ
write_steps steps lent = write_by (checked stage.Start steps 0) (bytes_of steps) lent

unfoldable pub write_into : List ℕ → List ℕ → Answer × List ℕ
write_into words lent = write_steps (from_words words) lent
