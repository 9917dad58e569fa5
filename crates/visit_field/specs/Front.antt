-- A field's front at an offset of the whole record, in a group that ends at `end`.
use Rattle.std.specs.Prelude.{ℕ, ◌+◌, ◌*◌, cond, ◌&&◌, List, eqb, ltb, leb, length, get_or, Result, Ok, Err}
use Rattle.visit.specs.declared.Place.{Place}
use Rattle.visit.specs.declared.Kind.{Kind}
use Rattle.visit.specs.declared.Kind.TheVariants as kind
use Rattle.visit.specs.declared.Fault.{Fault}
use Rattle.visit.specs.Steps.{value, missing}
use Rattle.visit.specs.Answers.{fault}
use Rattle.visit.specs.Tags as tag
use Rattle.visit.specs.Tree.{tag_of, most}
use Rattle.visit.specs.Reader.{kind_of}
use Rattle.paper.specs.Numbers as no
use Rattle.visit_field.specs.declared.Front.{Front}
use Rattle.visit_field.specs.declared.Front.TheVariants.{Group, Told}

-- high byte first
abbrev pub word_at : List ℕ → ℕ → ℕ
word_at s at = get_or s at 0 * 16777216 + get_or s (at + 1) 0 * 65536 + get_or s (at + 2) 0 * 256 + get_or s (at + 3) 0

abbrev pub size_at : List ℕ → ℕ → ℕ
size_at s at = get_or s (at + 1) 0 * 256 + get_or s (at + 2) 0

-- the word of a body of four bytes: 20, then 22
unfoldable pub word_within : ℕ → List ℕ → ℕ → ℕ → Result ℕ Fault
word_within limit s at n =
    cond (eqb n 4)
    (cond (ltb limit (word_at s (at + 3))) (Err (fault no.value_outside at)) (Ok (word_at s (at + 3))))
    (Err (fault no.wrong_field_length at))

-- 20, then 22
unfoldable pub value_at : Place → List ℕ → ℕ → ℕ → Result Front Fault
value_at p s at n =
    cond (eqb n 4)
    (cond (ltb (most p) (word_at s (at + 3))) (Err (fault no.value_outside at)) (Ok (Told (value (word_at s (at + 3))) (at + 3 + n))))
    (Err (fault no.wrong_field_length at))

unfoldable pub pascals_at : List ℕ → ℕ → ℕ → Result Front Fault
pascals_at s at n =
    cond (eqb n 4)
    (cond (ltb tag.most_pascals (word_at s (at + 3))) (Err (fault no.value_outside at)) (Ok (Told (value (word_at s (at + 3) * 256)) (at + 3 + n))))
    (Err (fault no.wrong_field_length at))

unfoldable pub missing_at : Place → List ℕ → ℕ → ℕ → Result Front Fault
missing_at p s at n =
    cond (eqb n 2)
    (cond (eqb (get_or s (at + 3) 0) (tag_of p))
    (cond (ltb (get_or s (at + 4) 0) tag.first_missing) (Err (fault no.value_outside at))
    (cond (ltb tag.last_missing (get_or s (at + 4) 0)) (Err (fault no.value_outside at))
    (Ok (Told (missing (get_or s (at + 4) 0)) (at + 3 + n)))))
    (Err (fault no.value_outside at)))
    (Err (fault no.wrong_field_length at))

-- 19, then by what the tag means
abbrev pub by_kind_at : Place → Kind → List ℕ → ℕ → ℕ → Result Front Fault
by_kind_at p kind.Group s at n = Ok (Group (at + 3 + n))
by_kind_at p kind.Value s at n = value_at p s at n
by_kind_at p kind.Pascals s at n = pascals_at s at n
by_kind_at p kind.Missing s at n = missing_at p s at n
by_kind_at p kind.Strange s at n = Err (fault no.tag_out_of_place at)

-- 18 where the body is cut short
unfoldable pub whole_at : Place → List ℕ → ℕ → ℕ → Result Front Fault
whole_at p s end at =
    cond (leb (at + 3 + size_at s at) end) (by_kind_at p (kind_of p (get_or s at 0)) s at (size_at s at)) (Err (fault no.cut_short at))

-- and where the header is, or the group itself
unfoldable pub front_at : Place → List ℕ → ℕ → ℕ → Result Front Fault
front_at p s end at = cond (leb end (length s) && leb (at + 3) end) (whole_at p s end at) (Err (fault no.cut_short at))
