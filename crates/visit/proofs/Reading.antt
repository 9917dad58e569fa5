-- What is spelled by a valid tree is read as its steps.
use Prim.Native.Nat.{ℕ, zero, suc, ◌+◌, ◌*◌, ◌≤◌}
use native.Mathlib.Omega.{arith}
use borrow.Author.Tests.{le-ltb, le-leb, eq-eqb}
use mathlib.Core.Bool.{Bool, true, false}
use mathlib.Core.List.{List, [], ◌∷◌, ◌++◌, append-nil}
use mathlib.Core.Path.{◌≡◌, refl}
use lib.Dec.{ltb, leb}
use lib.ListN.{length, length-append}
use lib.Seq.{take_at, drop_at}
use Rattle.visit.specs.declared.Place.{Place}
use Rattle.visit.specs.declared.Place.TheVariants as place
use Rattle.visit.specs.declared.Kind.TheVariants as kind
use Rattle.visit.specs.Tags as tag
use Rattle.visit.specs.Steps.{Answer, value, missing, Step, slot, around}
use Rattle.visit.specs.Tree.{Reading, exact, pascals, gone, Group, Groups, of_slot, of_groups, none, more, tag_of, most, has_value, has_pascals, has_missing, Within}
use Rattle.visit.specs.Tree.{Valid, AllValid, reading_bytes, framed, inside, in_all, encode, answer_of, steps_in, steps_in_all, steps_of}
use Rattle.visit.specs.Reader.{kind_of, telling, front, Field, grouped, field_from, Read, read, refused, is_missing, taken, by_kind, slot_of, walk, body_from, body_of}
use Rattle.visit.specs.Reader.{field_of, record_from, read_record}
use Rattle.visit.proofs.Bytes.{word_back, length_back}
use Rattle.paper.specs.Numbers as no

-- ---- a field by its front

abbrev pub inner_of : ℕ → ℕ → List ℕ → Read
inner_of zero at body = refused no.too_deep at
inner_of (suc l) at body = body_of (field_of l) body (at + 3)

pub field_is : (l : ℕ) (p : Place) (s : List ℕ) (at : ℕ) → field_of l p s at ≡ field_from (inner_of l at) (front p s at)
unfolding field_of
field_is zero p s at = refl
field_is (suc l) p s at = refl

value-kind : (p : Place) → has_value p ≡ true → kind_of p (tag_of p) ≡ kind.Value
value-kind place.Group h = cc
value-kind place.First h = refl
value-kind place.Temperature h = refl
value-kind place.Pressure h = refl
value-kind place.Humidity h = refl

pascals-kind : (p : Place) → has_pascals p ≡ true → kind_of p 5 ≡ kind.Pascals
pascals-kind place.Group h = cc
pascals-kind place.First h = cc
pascals-kind place.Temperature h = cc
pascals-kind place.Pressure h = refl
pascals-kind place.Humidity h = cc

missing-kind : (p : Place) → has_missing p ≡ true → kind_of p 7 ≡ kind.Missing
missing-kind place.Group h = cc
missing-kind place.First h = cc
missing-kind place.Temperature h = refl
missing-kind place.Pressure h = refl
missing-kind place.Humidity h = refl

-- ---- an answer

taken_is : (n : ℕ) (b : Bool) (a : Answer) (rest : List ℕ) (at : ℕ) → b ≡ true → taken n n b a rest at ≡ telling a rest (at + 3 + n)
unfolding taken
taken_is n b a rest at h = rw (eq-eqb n n refl, h)

-- four bytes and two are there
four-there : (n : ℕ) → ltb (suc (suc (suc (suc n)))) 4 ≡ false
four-there n = le-ltb (suc (suc (suc (suc n)))) 4 (omega arith)

two-there : (n : ℕ) → ltb (suc (suc n)) 2 ≡ false
two-there n = le-ltb (suc (suc n)) 2 (omega arith)

is-missing : (p : Place) (n : ℕ) → 10 ≤ n → n ≤ 14 → is_missing p (tag_of p) n ≡ true
is-missing p n h g = rw (eq-eqb (tag_of p) (tag_of p) refl, le-leb 10 n h, le-leb n 14 g)

pub answer-read : (p : Place) (r : Reading) (rest : List ℕ) (at : ℕ) → Within p r
    → front p (reading_bytes p r ++ rest) at ≡ telling (answer_of r) rest (at + length (reading_bytes p r))
unfolding front by_kind
answer-read p (exact v) rest at w =
    let e : at + 3 + 4 ≡ at + 7 = omega arith in
    rw (four-there (length rest), value-kind p w.0, word_back v, taken_is 4 (leb v (most p)) (value v) rest at (le-leb v (most p) w.1), e)
answer-read p (pascals v) rest at w =
    let e : at + 3 + 4 ≡ at + 7 = omega arith in
    rw (four-there (length rest), pascals-kind p w.0, word_back v, taken_is 4 (leb v 16777215) (value (v * 256)) rest at (le-leb v 16777215 w.1), e)
answer-read p (gone n) rest at w =
    let e : at + 3 + 2 ≡ at + 5 = omega arith in
    rw (two-there (length rest), missing-kind p w.0, taken_is 2 (is_missing p (tag_of p) n) (missing n) rest at (is-missing p n w.1.0 w.1.1), e)

-- ---- a group

abbrev pub HoldsGroups : Place → Type 0
HoldsGroups p = kind_of p 1 ≡ kind.Group

pub group-read : (l : ℕ) (p : Place) (body rest : List ℕ) (held : List Step) (at : ℕ) → HoldsGroups p → inner_of l at body ≡ read held
    → field_of l p (framed body ++ rest) at ≡ grouped (around held) rest (at + length (framed body))
unfolding front by_kind field_from
group-read l p body rest held at k h =
    let n = length body in
    let there : ltb (length (body ++ rest)) n ≡ false = le-ltb (length (body ++ rest)) n (simp length-append (omega arith)) in
    let e : at + 3 + n ≡ at + suc (suc (suc n)) = omega arith in
    rw (field_is, length_back n, there, k, take_at body rest n refl, drop_at body rest n refl, h, e)

-- ---- a slot

last-answer-read : (p : Place) (r : Reading) (at : ℕ) → Within p r
    → front p (reading_bytes p r) at ≡ telling (answer_of r) [] (at + length (reading_bytes p r))
last-answer-read p r at w = rw append-nil at (answer-read p r [] at w)

-- the answers after the time
slot_read : (time : ℕ) (t p h : Reading) (at : ℕ) → Within place.Temperature t → Within place.Pressure p → Within place.Humidity h
    → slot_of time (reading_bytes place.Temperature t ++ (reading_bytes place.Pressure p ++ reading_bytes place.Humidity h)) at
    ≡ read (slot time (answer_of t) (answer_of p) (answer_of h) ∷ [])
unfolding slot_of
slot_read time t p h at vt vp vh =
    rw (slot_of, answer-read place.Temperature t (reading_bytes place.Pressure p ++ reading_bytes place.Humidity h) at vt)
    (rw (answer-read place.Pressure p (reading_bytes place.Humidity h) (at + length (reading_bytes place.Temperature t)) vp)
    (rw (last-answer-read place.Humidity h (at + length (reading_bytes place.Temperature t) + length (reading_bytes place.Pressure p)) vh) refl))

-- ---- groups

walk-nothing : (f : Place → List ℕ → ℕ → Field) (fuel at : ℕ) → walk f fuel [] at ≡ read []
unfolding walk
walk-nothing f zero at = refl
walk-nothing f (suc fuel) at = refl

mutual
  unfolding inside body_from steps_in walk field_from

  pub body-read : (g : Group) (l at : ℕ) → Valid g l → body_of (field_of l) (inside g) at ≡ read (steps_in g)
  body-read (of_slot time t p h) l at v =
      rw (field_is l place.First, answer-read place.First (exact time) (reading_bytes place.Temperature t ++ (reading_bytes place.Pressure p ++ reading_bytes place.Humidity h)) at v.0)
      (slot_read time t p h (at + 7) v.1.0 v.1.1.0 v.1.1.1)
  body-read (of_groups g gs) zero at v = absurd v
  body-read (of_groups g gs) (suc l) at v =
      rw (group-read (suc l) place.First (inside g) (in_all gs) (steps_in g) at refl (body-read g l (at + 3) v.0))
      (rw (walk-read gs l (length (in_all gs)) (at + length (framed (inside g))) v.1 (omega arith)) refl)

  walk-read : (gs : Groups) (l fuel at : ℕ) → AllValid gs l → length (in_all gs) ≤ fuel → walk (field_of (suc l)) fuel (in_all gs) at ≡ read (steps_in_all gs)
  walk-read none l fuel at v h = walk-nothing (field_of (suc l)) fuel at
  walk-read (more g gs) l zero at v h = absurd (omega arith)
  walk-read (more g gs) l (suc fuel) at v h =
      rw (group-read (suc l) place.Group (inside g) (in_all gs) (steps_in g) at refl (body-read g l (at + 3) v.0))
      (rw (walk-read gs l fuel (at + length (framed (inside g))) v.1 (omega (arith, length-append (inside g) (in_all gs)))) refl)

pub record-read : (g : Group) → Valid g 3 → read_record (encode g) ≡ read (steps_of g)
unfolding read_record record_from
record-read g v =
    rw (rw append-nil at (group-read tag.levels place.Group (inside g) [] (steps_in g) 0 refl (body-read g 3 3 v)))
