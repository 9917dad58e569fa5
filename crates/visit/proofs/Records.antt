-- Reading and writing are of exactly the records.
use Prim.Native.Nat.{ℕ, ◌/◌, ◌≤◌, ◌<◌}
use native.Mathlib.Omega.{arith}
use borrow.Author.Tests.{ltb-false, lt-ltb, le-ltb}
use mathlib.Core.Bool.{Bool, true, false, cond}
use mathlib.Core.List.{List, [], ◌∷◌, ◌++◌}
use mathlib.Core.Path.{◌≡◌, refl, ap, subst, ◌∙◌}
use lib.Dec.{ltb}
use lib.ListN.{length, drop}
use Rattle.visit.specs.declared.Stage.TheVariants as stage
use Rattle.visit.specs.Tags as tag
use Rattle.visit.specs.Steps.{Step}
use Rattle.visit.specs.Words.{words_each, words_of, from_words}
use Rattle.visit.specs.Tree.{Group, Valid, IsRecord, Bytes, encode, steps_of, plain}
use Rattle.visit.specs.Reader.{Read, read, read_record}
use Rattle.visit.specs.Reader.{refused as refused_at}
use Rattle.visit.specs.Writer.{Checked, fine, wrong, checked, bytes_of}
use Rattle.visit.specs.Lent.{read_by, read_into, write_by, write_steps, write_into}
use Rattle.visit.specs.Records.{handed, RecordBytes, ReadsRecords, RecordSteps, WritesRecords}
use Rattle.visit.proofs.Lists.{list_length}
use Rattle.visit.proofs.Reading.{record-read}
use Rattle.visit.proofs.Accepting.{record-from}
use Rattle.visit.proofs.Spelling.{bytes-of}
use Rattle.visit.proofs.Checking.{checked-tree}
use Rattle.visit.proofs.Building.{tree-from}
use Rattle.visit.proofs.Faults.{ReadFault, read-fault, CheckedFault, checked-fault}
use Rattle.visit.proofs.Plain.{plain-length}
use Rattle.laws.specs.Choices.{pick}
use Rattle.paper.specs.Numbers as no
use Rattle.paper.specs.Answers.{Answer, given, refused}

-- ---- reading

read_all :
    (g : Group) (lent : List ℕ) → IsRecord g → length (steps_of g) ≤ length lent / words_each
    → read_into (encode g) lent ≡ handed (length (steps_of g)) (words_of (steps_of g)) lent
unfolding read_into
read_all g lent r h =
    rw (le-ltb tag.most_bytes (length (encode g)) r.short, record-read g r.valid, le-ltb (length lent / words_each) (length (steps_of g)) h, list_length (steps_of g))

read_short :
    (g : Group) (lent : List ℕ) → IsRecord g → length lent / words_each < length (steps_of g)
    → read_into (encode g) lent ≡ (refused no.buffer_too_short, lent)
unfolding read_into
read_short g lent r h =
    rw (le-ltb tag.most_bytes (length (encode g)) r.short, record-read g r.valid, lt-ltb (length lent / words_each) (length (steps_of g)) h)

read-long : (s lent : List ℕ) → tag.most_bytes < length s → read_into s lent ≡ (refused no.wrong_length, lent)
unfolding read_into
read-long s lent h = rw (lt-ltb tag.most_bytes (length s) h)

-- a refusal's number is never 0
read_only : (s lent : List ℕ) → Bytes s → (read_into s lent).0.number ≡ no.done → RecordBytes s
unfolding read_into
read_only s lent b e = long (ltb tag.most_bytes (length s)) refl e
  where
    from : (x : Read) → read_record s ≡ x → ReadFault x → length s ≤ tag.most_bytes → (read_by x lent).0.number ≡ no.done → RecordBytes s
    from (read steps) f h short e =
        let t = record-from s steps b f in
        record {
          group = t.group;
          is-record = record { valid = t.valid; short = subst (λ x. length x ≤ tag.most_bytes) t.bytes short };
          bytes = t.bytes;
        }
    from (refused_at n o) f h short e = absurd (omega arith)

    long : (x : Bool) → ltb tag.most_bytes (length s) ≡ x → (cond x (refused no.wrong_length, lent) (read_by (read_record s) lent)).0.number ≡ no.done → RecordBytes s
    long true c e = absurd (omega arith)
    long false c e = from (read_record s) refl (read-fault s) (ltb-false tag.most_bytes (length s) c) e

-- where nothing is done, what is lent stays
abbrev Leaves : List ℕ → Answer × List ℕ → Type 0
Leaves lent x = (x.0.number ≡ no.done → ⊥) → x.1 ≡ lent

read-leaves : (s lent : List ℕ) → Leaves lent (read_into s lent)
unfolding read_into
read-leaves s lent = pick (Leaves lent) (ltb tag.most_bytes (length s)) (λ e h. refl) (λ e. by (read_record s))
  where
    by : (x : Read) → Leaves lent (read_by x lent)
    by (read steps) = pick (Leaves lent) (ltb (length lent / words_each) (length steps)) (λ e h. refl) (λ e h. absurd (h refl))
    by (refused_at n o) = λ h. refl

pub reads-records : ReadsRecords read_into
reads-records = record { reads_all = read_all; reads_only = read_only; short-list = read_short; too_long = read-long; refusal-leaves = read-leaves }

-- ---- writing

plain-short : (g : Group) → IsRecord g → length (encode (plain g)) ≤ tag.most_bytes
plain-short g r = omega (arith, plain-length g, r.short)

write-all :
    (g : Group) (words lent : List ℕ) → IsRecord g → from_words words ≡ steps_of g → length (encode (plain g)) ≤ length lent
    → write_into words lent ≡ handed (length (encode (plain g))) (encode (plain g)) lent
unfolding write_into write_steps
write-all g words lent r e h =
    rw (e, checked-tree g r.valid, bytes-of g, le-ltb tag.most_bytes (length (encode (plain g))) (plain-short g r), le-ltb (length lent) (length (encode (plain g))) h)

write-short :
    (g : Group) (words lent : List ℕ) → IsRecord g → from_words words ≡ steps_of g → length lent < length (encode (plain g))
    → write_into words lent ≡ (refused no.buffer_too_short, lent)
unfolding write_into write_steps
write-short g words lent r e h =
    rw (e, checked-tree g r.valid, bytes-of g, le-ltb tag.most_bytes (length (encode (plain g))) (plain-short g r), lt-ltb (length lent) (length (encode (plain g))) h)

write-long :
    (g : Group) (words lent : List ℕ) → Valid g 3 → from_words words ≡ steps_of g → tag.most_bytes < length (encode (plain g))
    → write_into words lent ≡ (refused no.wrong_length, lent)
unfolding write_into write_steps
write-long g words lent v e h = rw (e, checked-tree g v, bytes-of g, lt-ltb tag.most_bytes (length (encode (plain g))) h)

write-only : (words lent : List ℕ) → (write_into words lent).0.number ≡ no.done → RecordSteps words
unfolding write_into write_steps
write-only words lent e = from (checked stage.Start ss 0) refl (checked-fault stage.Start ss 0) e
  where
    ss : List Step
    ss = from_words words

    sized : (x : Bool) → ltb tag.most_bytes (length (bytes_of ss)) ≡ x → checked stage.Start ss 0 ≡ fine
        → (cond {A = Answer × List ℕ} x (refused no.wrong_length, lent) (cond (ltb (length lent) (length (bytes_of ss))) (refused no.buffer_too_short, lent)
        (given (length (bytes_of ss) ∷ []), bytes_of ss ++ drop (length (bytes_of ss)) lent))).0.number ≡ no.done
        → RecordSteps words
    sized true c f e = absurd (omega arith)
    sized false c f e =
        let t = tree-from ss 0 f in
        let whole : bytes_of ss ≡ encode t.group = ap bytes_of t.steps ∙ bytes-of t.group ∙ ap encode t.is_plain in
        record {
          group = t.group;
          is-record = record { valid = t.valid; short = subst (λ x. length x ≤ tag.most_bytes) whole (ltb-false tag.most_bytes (length (bytes_of ss)) c) };
          is_plain = t.is_plain;
          steps = t.steps;
        }

    from : (x : Checked) → checked stage.Start ss 0 ≡ x → CheckedFault x → (write_by x (bytes_of ss) lent).0.number ≡ no.done → RecordSteps words
    from fine f h e = sized (ltb tag.most_bytes (length (bytes_of ss))) refl f e
    from (wrong n i) f h e = absurd (omega arith)

write-leaves : (words lent : List ℕ) → Leaves lent (write_into words lent)
unfolding write_into write_steps
write-leaves words lent = by (checked stage.Start (from_words words) 0) (bytes_of (from_words words))
  where
    by : (x : Checked) (bytes : List ℕ) → Leaves lent (write_by x bytes lent)
    by fine bytes =
        pick (Leaves lent) (ltb tag.most_bytes (length bytes)) (λ e h. refl)
        (λ e. pick (Leaves lent) (ltb (length lent) (length bytes)) (λ e h. refl) (λ e h. absurd (h refl)))
    by (wrong n i) bytes = λ h. refl

pub writes-records : WritesRecords write_into
writes-records = record { writes-all = write-all; writes-only = write-only; short-buffer = write-short; too_long = write-long; refusal-leaves = write-leaves }
