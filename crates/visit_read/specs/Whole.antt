-- A whole record, and how many steps it has.
use Rattle.std.specs.Prelude.{ℕ, cond, List, [], ltb, length, Ok, Err}
use Rattle.visit.specs.declared.Place.TheVariants as place
use Rattle.visit.specs.Tags as tag
use Rattle.visit.specs.Answers.{fault}
use Rattle.paper.specs.Numbers as no
use Rattle.visit_read.specs.declared.Field.TheVariants as field
use Rattle.visit_read.specs.Slots.{Filling}
use Rattle.visit_read.specs.Groups.{FieldRead, field_at}

-- nothing may be left after it
abbrev pub whole_by : ℕ → FieldRead → List ℕ → Filling × List ℕ
whole_by end (Ok (field.Group next k)) list = cond (ltb next end) (Err (fault no.tag_out_of_place next), list) (Ok k, list)
whole_by end (Ok (field.Told a next)) list = (Err (fault no.tag_out_of_place next), list)
whole_by end (Err f) list = (Err f, list)

abbrev pub whole_after : ℕ → FieldRead × List ℕ → Filling × List ℕ
whole_after end x = whole_by end x.0 x.1

unfoldable pub whole_at : List ℕ → List ℕ → Filling × List ℕ
whole_at s list = whole_after (length s) (field_at tag.levels s (length s) place.Group 0 0 list)

-- read with a list that has no room for any; the one that is lent stays as it was
unfoldable pub count_at : List ℕ → List ℕ → Filling × List ℕ
count_at s list = ((whole_at s []).0, list)
