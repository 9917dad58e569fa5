-- The reader, as the paper walks the bytes. A field is read off the front of the bytes up to its group's end. The offset is carried beside them and is looked at only in
-- refusals. At each field the checks come in this order: 18 cut short, 19 tag out of place, 20 wrong length, 21 too deep, 22 value outside its limits.
use Rattle.std.specs.Prelude.{ℕ, zero, suc, ◌+◌, ◌*◌, Bool, cond, ◌&&◌, List, [], ◌∷◌, ◌++◌, eqb, ltb, leb, length, get_or, take, drop, Ok, Err}
use Rattle.visit.specs.declared.Place.{Place}
use Rattle.visit.specs.declared.Place.TheVariants as place
use Rattle.visit.specs.declared.Kind.{Kind}
use Rattle.visit.specs.declared.Kind.TheVariants as kind
use Rattle.visit.specs.Steps.{Answer, value, missing, Step, slot, around}
use Rattle.visit.specs.Tags as tag
use Rattle.visit.specs.Tree.{tag_of, most}
use Rattle.paper.specs.Numbers as no

-- what a tag means at a place
abbrev pub kind_of : Place → ℕ → Kind
kind_of place.Group t = cond (eqb t tag.group) kind.Group kind.Strange
kind_of place.First t = cond (eqb t tag.group) kind.Group (cond (eqb t tag.time) kind.Value kind.Strange)
kind_of place.Temperature t = cond (eqb t tag.temperature) kind.Value (cond (eqb t tag.missing) kind.Missing kind.Strange)
kind_of place.Pressure t =
    cond (eqb t tag.pressure) kind.Value (cond (eqb t tag.pascals) kind.Pascals (cond (eqb t tag.missing) kind.Missing kind.Strange))
kind_of place.Humidity t = cond (eqb t tag.humidity) kind.Value (cond (eqb t tag.missing) kind.Missing kind.Strange)

-- a field's front: a group with its body still unread, or an answer, with the bytes after it and their offset; or a number and an offset
pub data Front : Type 0 where
  holding : List ℕ → List ℕ → ℕ → Front
  telling : Answer → List ℕ → ℕ → Front
  failing : ℕ → ℕ → Front

-- a field read whole
pub data Field : Type 0 where
  grouped : List Step → List ℕ → ℕ → Field
  answered : Answer → List ℕ → ℕ → Field
  bad : ℕ → ℕ → Field

-- a whole body or record read
pub data Read : Type 0 where
  read : List Step → Read
  refused : ℕ → ℕ → Read

-- ---- a field's front

abbrev pub word_of : List ℕ → ℕ
word_of b = get_or b 0 0 * 16777216 + get_or b 1 0 * 65536 + get_or b 2 0 * 256 + get_or b 3 0

abbrev pub is_missing : Place → ℕ → ℕ → Bool
is_missing p channel n = eqb channel (tag_of p) && (leb tag.first_missing n && leb n tag.last_missing)

-- 20, then 22
unfoldable pub taken : ℕ → ℕ → Bool → Answer → List ℕ → ℕ → Front
taken n size within a rest at =
    cond (eqb n size) (cond within (telling a rest (at + 3 + n)) (failing no.value_outside at)) (failing no.wrong_field_length at)

-- 19, then by what the tag means
unfoldable pub by_kind : Place → Kind → ℕ → List ℕ → List ℕ → ℕ → Front
by_kind p kind.Group n body rest at = holding body rest (at + 3 + n)
by_kind p kind.Value n body rest at = taken n 4 (leb (word_of body) (most p)) (value (word_of body)) rest at
by_kind p kind.Pascals n body rest at = taken n 4 (leb (word_of body) tag.most_pascals) (value (word_of body * 256)) rest at
by_kind p kind.Missing n body rest at =
    taken n 2 (is_missing p (get_or body 0 0) (get_or body 1 0)) (missing (get_or body 1 0)) rest at
by_kind p kind.Strange n body rest at = failing no.tag_out_of_place at

-- 18 where the header or the body is cut short
unfoldable pub front : Place → List ℕ → ℕ → Front
front p [] at = failing no.cut_short at
front p (tag ∷ []) at = failing no.cut_short at
front p (tag ∷ high ∷ []) at = failing no.cut_short at
front p (tag ∷ high ∷ low ∷ after) at =
    let n = high * 256 + low in
    cond (ltb (length after) n) (failing no.cut_short at) (by_kind p (kind_of p tag) n (take n after) (drop n after) at)

-- ---- a field, where `inner` reads a group's body

abbrev pub framed_steps : Read → List ℕ → ℕ → Field
framed_steps (read held) rest next = grouped (around held) rest next
framed_steps (refused number offset) rest next = bad number offset

unfoldable pub field_from : (List ℕ → Read) → Front → Field
field_from inner (holding body rest next) = framed_steps (inner body) rest next
field_from inner (telling a rest next) = answered a rest next
field_from inner (failing number offset) = bad number offset

-- ---- a group's body, given the reader of the fields in it

-- nothing may be left
abbrev pub ended : List Step → List ℕ → ℕ → Read
ended held [] at = read held
ended held (b ∷ s) at = refused no.tag_out_of_place at

abbrev pub joined : List Step → Read → Read
joined held (read later) = read (held ++ later)
joined held (refused number offset) = refused number offset

-- an answer and then what comes after it; no group is read at a place for answers
abbrev pub on_answer : Front → (Answer → List ℕ → ℕ → Read) → Read
on_answer (holding body rest next) k = refused no.tag_out_of_place next
on_answer (telling a rest next) k = k a rest next
on_answer (failing number offset) k = refused number offset

unfoldable pub slot_of : ℕ → List ℕ → ℕ → Read
slot_of time s at =
    on_answer (front place.Temperature s at)
    (λ t s at. on_answer (front place.Pressure s at)
    (λ p s at. on_answer (front place.Humidity s at)
    (λ h s at. ended (slot time t p h ∷ []) s at)))

-- a group and then what comes after it; no answer is read at a place for groups
abbrev pub on_group : Field → (List ℕ → ℕ → Read) → Read
on_group (grouped held rest next) k = joined held (k rest next)
on_group (answered a rest next) k = refused no.tag_out_of_place next
on_group (bad number offset) k = refused number offset

-- the groups up to the end, at most `fuel` of them; as many as there are bytes is enough
unfoldable pub walk : (Place → List ℕ → ℕ → Field) → ℕ → List ℕ → ℕ → Read
walk f zero [] at = read []
walk f zero (b ∷ s) at = refused no.cut_short at
walk f (suc fuel) [] at = read []
walk f (suc fuel) (b ∷ s) at = on_group (f place.Group (b ∷ s) at) (λ s at. walk f fuel s at)

unfoldable pub body_from : (Place → List ℕ → ℕ → Field) → Field → Read
body_from f (grouped held rest next) = joined held (walk f (length rest) rest next)
body_from f (answered (Ok time) rest next) = slot_of time rest next
body_from f (answered (Err a) rest next) = refused no.tag_out_of_place next
body_from f (bad number offset) = refused number offset

abbrev pub body_of : (Place → List ℕ → ℕ → Field) → List ℕ → ℕ → Read
body_of f s at = body_from f (f place.First s at)

-- ---- fields and bodies by levels: so many groups may still be opened

unfoldable pub field_of : ℕ → Place → List ℕ → ℕ → Field
field_of zero p s at = field_from (λ body. refused no.too_deep at) (front p s at)
field_of (suc l) p s at = field_from (λ body. body_of (field_of l) body (at + 3)) (front p s at)

-- ---- a record

unfoldable pub record_from : Field → Read
record_from (grouped held rest next) = ended held rest next
record_from (answered a rest next) = refused no.tag_out_of_place next
record_from (bad number offset) = refused number offset

unfoldable pub read_record : List ℕ → Read
read_record s = record_from (field_of tag.levels place.Group s 0)
