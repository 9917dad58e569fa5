-- The round trips of any reader and any writer of exactly the records.
use Prim.Native.Nat.{ℕ, ◌*◌, ◌/◌, ◌≤◌, ◌<◌}
use native.Mathlib.Omega.{arith}
use borrow.Author.Tests.{ltb-true, ltb-false}
use mathlib.Core.Bool.{Bool, true, false}
use mathlib.Core.List.{List, [], ◌∷◌}
use mathlib.Core.Path.{◌≡◌, refl, sym, ap, subst, ◌∙◌}
use lib.Dec.{ltb}
use lib.ListN.{length, take, drop}
use lib.Seq.{take_at}
use Rattle.visit.specs.Steps.{Step}
use Rattle.visit.specs.Words.{words_each, words_of, from_words}
use Rattle.visit.specs.Tree.{Bytes, encode, steps_of, plain}
use Rattle.visit.specs.Lent.{read_into, write_into}
use Rattle.visit.specs.Records.{Call, handed, ReadsRecords, WritesRecords, Again, RoundTrips}
use Rattle.visit.proofs.Lists.{list_length, listed}
use Rattle.visit.proofs.Plain.{plain-length}
use Rattle.visit.proofs.Records.{reads-records, writes-records}
use Rattle.paper.specs.Numbers as no
use Rattle.paper.specs.Answers.{Answer, given, refused}

-- one of two sizes is the smaller
sides : (m n : ℕ) {X : Type 0} → (n ≤ m → X) → (m < n → X) → X
sides m n {X} f g = go (ltb m n) refl
  where
    go : (b : Bool) → ltb m n ≡ b → X
    go true e = g (ltb-true m n e)
    go false e = f (ltb-false m n e)

-- what was done was not refused with 9
not_short : {X : Type 0} (call : Answer × List ℕ) (lent : List ℕ) (n : ℕ) → call.0 ≡ given (n ∷ []) → call ≡ (refused no.buffer_too_short, lent) → X
not_short call lent n e f = absurd (omega (arith, ap (λ (a : Answer). a.number) e, ap (λ (x : Answer × List ℕ). x.0.number) f))

-- what was handed back and laid down
count-is : (call : Answer × List ℕ) (m n : ℕ) (output lent : List ℕ) → call.0 ≡ given (n ∷ []) → call ≡ handed m output lent → n ≡ m
count-is call m n output lent e f = cc (ap (λ (x : Answer × List ℕ). x.0.values) f, ap (λ (a : Answer). a.values) e)

laid-is : (call : Answer × List ℕ) (m n : ℕ) (output lent : List ℕ) → call ≡ handed m output lent → length output ≡ n → take n call.1 ≡ output
laid-is call m n output lent f e = ap (λ (x : Answer × List ℕ). take n x.1) f ∙ take_at output (drop (length output) lent) n e

module _ (reads writes : Call) (r : ReadsRecords reads) (w : WritesRecords writes) where
  written_read :
      (words out lent : List ℕ) (n : ℕ) → (writes words out).0 ≡ given (n ∷ []) → length (from_words words) ≤ length lent / words_each
      → reads (take n (writes words out).1) lent ≡ handed (length (from_words words)) (words_of (from_words words)) lent
  written_read words out lent n e room =
      let k = w.writes-only words out (ap (λ (a : Answer). a.number) e) in
      let g = k.group in
      sides (length out) (length (encode (plain g)))
      (λ fits.
      let f = w.writes-all g words out k.is-record k.steps fits in
      let m = count-is (writes words out) (length (encode (plain g))) n (encode (plain g)) out e f in
      let laid = laid-is (writes words out) (length (encode (plain g))) n (encode (plain g)) out f (sym m) ∙ ap encode k.is_plain in
      ap (λ s. reads s lent) laid
      ∙ r.reads_all g lent k.is-record (subst (λ (ss : List Step). length ss ≤ length lent / words_each) k.steps room)
      ∙ ap (λ (ss : List Step). handed (length ss) (words_of ss) lent) (sym k.steps))
      (λ short. not_short (writes words out) out n e (w.short-buffer g words out k.is-record k.steps short))

  read-written :
      (s lent out : List ℕ) (n : ℕ) → Bytes s → (reads s lent).0 ≡ given (n ∷ []) → length s ≤ length out
      → Again writes s (take (n * words_each) (reads s lent).1) out
  read-written s lent out n b e room =
      let k = r.reads_only s lent b (ap (λ (a : Answer). a.number) e) in
      let g = k.group in
      let e' : (reads (encode g) lent).0 ≡ given (n ∷ []) = subst (λ x. (reads x lent).0 ≡ given (n ∷ [])) k.bytes e in
      sides (length lent / words_each) (length (steps_of g))
      (λ fits.
      let f = r.reads_all g lent k.is-record fits in
      let m = count-is (reads (encode g) lent) (length (steps_of g)) n (words_of (steps_of g)) lent e' f in
      let laid = laid-is (reads (encode g) lent) (length (steps_of g)) (n * words_each) (words_of (steps_of g)) lent f (omega (arith, list_length (steps_of g), m)) in
      let words = ap (λ x. take (n * words_each) (reads x lent).1) k.bytes ∙ laid in
      let size : length s ≡ length (encode (plain g)) = omega (arith, ap length k.bytes, plain-length g) in
      let written = w.writes-all g (words_of (steps_of g)) out k.is-record (listed g k.is-record) (omega arith) in
      let again = ap (λ x. writes x out) words ∙ written ∙ ap (λ c. handed c (encode (plain g)) out) (sym size) in
      record {
        group = g;
        bytes = k.bytes;
        again = again;
        same = λ p. again ∙ ap (λ x. handed (length s) x out) (ap encode p ∙ sym k.bytes);
      })
      (λ short. not_short (reads (encode g) lent) lent n e' (r.short-list g lent k.is-record short))

  pub round-trips : RoundTrips reads writes
  round-trips = record { written-then-read = written_read; read-then-written = read-written }

pub trips : RoundTrips read_into write_into
trips = round-trips read_into write_into reads-records writes-records
