-- The offset and the place that the second calls give are those of the first, whatever list or buffer that was lent.
use Prim.Native.Nat.{ℕ}
use mathlib.Core.Bool.{Bool, true, false, cond}
use mathlib.Core.List.{List, []}
use mathlib.Core.Path.{◌≡◌, refl, sym, ◌∙◌}
use lib.Dec.{ltb}
use lib.ListN.{length}
use Rattle.paper.specs.Numbers as no
use Rattle.paper.specs.Answers.{Answer}
use Rattle.paper.specs.Answers.{refused as refused_with}
use Rattle.visit.specs.declared.Stage.TheVariants as stage
use Rattle.visit.specs.declared.Step.{Step}
use Rattle.visit.specs.Tags as tag
use Rattle.visit.specs.Words.{from_words}
use Rattle.visit.specs.Reader.{Read, read, refused, read_record}
use Rattle.visit.specs.Writer.{Checked, fine, wrong, checked, bytes_of}
use Rattle.visit.specs.Lent.{read_by, read_into, write_by, write_steps, write_into}
use Rattle.onegrish_visit.specs.Handed.{beside_answer, offset_of, place_of, GoTogether}

-- where neither of two answers has anything beside its number, the one that a test picks has not
either : (b : Bool) (x y : Answer × List ℕ) → beside_answer x.0 ≡ 0 → beside_answer y.0 ≡ 0 → beside_answer (cond b x y).0 ≡ 0
either true x y p q = p
either false x y p q = q

-- a record that is read has none
no-offset : (steps : List Step) (lent : List ℕ) → beside_answer (read_by (read steps) lent).0 ≡ 0
no-offset steps lent = search either

read-together : (r : Read) (lent : List ℕ) → beside_answer (read_by r lent).0 ≡ beside_answer (read_by r []).0
read-together (read steps) lent = no-offset steps lent ∙ sym (no-offset steps [])
read-together (refused number offset) lent = refl

-- nor has one that is written
no_place : (bytes lent : List ℕ) → beside_answer (write_by fine bytes lent).0 ≡ 0
no_place bytes lent = search either

written-together : (o : Checked) (bytes lent : List ℕ) → beside_answer (write_by o bytes lent).0 ≡ beside_answer (write_by o bytes []).0
written-together fine bytes lent = no_place bytes lent ∙ sym (no_place bytes [])
written-together (wrong number place) bytes lent = refl

-- 2 comes before the record is looked at
after-length : (long : Bool) (r : Read) (lent : List ℕ)
    → beside_answer (cond long (refused_with no.wrong_length, lent) (read_by r lent)).0 ≡ beside_answer (cond long (refused_with no.wrong_length, []) (read_by r [])).0
after-length true r lent = refl
after-length false r lent = read-together r lent

pub go-together : GoTogether
unfolding read_into offset_of write_into write_steps place_of
go-together = record {
  offset = λ bytes lent. after-length (ltb tag.most_bytes (length bytes)) (read_record bytes) lent;
  place = λ words lent. written-together (checked stage.Start (from_words words) 0) (bytes_of (from_words words)) lent;
}
