-- What a record is, apart from any reader or writer: a visit as a tree, and its bytes and steps.
-- What stands in the tree is spelled as the bytes spell it: a pressure in whole pascals is told apart.
use Rattle.std.specs.Prelude.{ℕ, zero, suc, ◌*◌, ◌/◌, ◌%◌, ◌≤◌, ◌<◌, Bool, true, false, List, [], ◌∷◌, ◌++◌, ◌≡◌, length}
use Rattle.visit.specs.declared.Place.{Place}
use Rattle.visit.specs.declared.Place.TheVariants as place
use Rattle.visit.specs.Steps.{Answer, value, missing, Step, slot, around}
use Rattle.visit.specs.Tags as tag

-- what stands in a channel's place
pub data Reading : Type 0 where
  exact : ℕ → Reading  -- under the place's own tag
  pascals : ℕ → Reading  -- whole pascals, tag 5
  gone : ℕ → Reading  -- tag 7

-- a group holds one slot, with its time and its three readings, or a first group and those after it
mutual
  pub data Group : Type 0 where
    of_slot : ℕ → Reading → Reading → Reading → Group
    of_groups : Group → Groups → Group

  pub data Groups : Type 0 where
    none : Groups
    more : Group → Groups → Groups

-- ---- limits

-- the tag of a value at its place; a place for groups alone has none
abbrev pub tag_of : Place → ℕ
tag_of place.Group = 0
tag_of place.First = tag.time
tag_of place.Temperature = tag.temperature
tag_of place.Pressure = tag.pressure
tag_of place.Humidity = tag.humidity

abbrev pub most : Place → ℕ
most place.Group = 0
most place.First = tag.most_word
most place.Temperature = tag.most_word
most place.Pressure = tag.most_word
most place.Humidity = tag.most_humidity

abbrev pub has_value : Place → Bool
has_value place.Group = false
has_value place.First = true
has_value place.Temperature = true
has_value place.Pressure = true
has_value place.Humidity = true

abbrev pub has_pascals : Place → Bool
has_pascals place.Group = false
has_pascals place.First = false
has_pascals place.Temperature = false
has_pascals place.Pressure = true
has_pascals place.Humidity = false

abbrev pub has_missing : Place → Bool
has_missing place.Group = false
has_missing place.First = false
has_missing place.Temperature = true
has_missing place.Pressure = true
has_missing place.Humidity = true

abbrev pub Within : Place → Reading → Type 0
Within p (exact v) = (has_value p ≡ true) × (v ≤ most p)
Within p (pascals v) = (has_pascals p ≡ true) × (v ≤ tag.most_pascals)
Within p (gone n) = (has_missing p ≡ true) × ((tag.first_missing ≤ n) × (n ≤ tag.last_missing))

-- a group under which so many more levels may stand
abbrev mutual
  pub Valid : Group → ℕ → Type 0
  Valid (of_slot time t p h) l =
      Within place.First (exact time)
      × (Within place.Temperature t × (Within place.Pressure p × Within place.Humidity h))
  Valid (of_groups g gs) zero = ⊥
  Valid (of_groups g gs) (suc l) = Valid g l × AllValid gs l

  pub AllValid : Groups → ℕ → Type 0
  AllValid none l = Unit
  AllValid (more g gs) l = Valid g l × AllValid gs l

-- ---- bytes

-- high byte first
abbrev pub four_bytes : ℕ → List ℕ
four_bytes v = v / 16777216 ∷ v / 65536 % 256 ∷ v / 256 % 256 ∷ v % 256 ∷ []

abbrev pub reading_bytes : Place → Reading → List ℕ
reading_bytes p (exact v) = tag_of p ∷ 0 ∷ 4 ∷ four_bytes v
reading_bytes p (pascals v) = tag.pascals ∷ 0 ∷ 4 ∷ four_bytes v
reading_bytes p (gone n) = tag.missing ∷ 0 ∷ 2 ∷ tag_of p ∷ n ∷ []

abbrev pub slot_bytes : ℕ → Reading → Reading → Reading → List ℕ
slot_bytes time t p h =
    reading_bytes place.First (exact time)
    ++ (reading_bytes place.Temperature t ++ (reading_bytes place.Pressure p ++ reading_bytes place.Humidity h))

-- a group around its body
abbrev pub framed : List ℕ → List ℕ
framed body = tag.group ∷ length body / 256 ∷ length body % 256 ∷ body

unfoldable mutual
  pub inside : Group → List ℕ
  inside (of_slot time t p h) = slot_bytes time t p h
  inside (of_groups g gs) = framed (inside g) ++ in_all gs

  pub in_all : Groups → List ℕ
  in_all none = []
  in_all (more g gs) = framed (inside g) ++ in_all gs

abbrev pub encode : Group → List ℕ
encode g = framed (inside g)

-- a record's tree: at most four levels, values within their limits, at most 65,535 bytes
pub record IsRecord (g : Group) : Type 0 where
  pub valid : Valid g 3
  pub short : length (encode g) ≤ tag.most_bytes

abbrev pub Bytes : List ℕ → Type 0
Bytes [] = Unit
Bytes (b ∷ s) = (b < 256) × Bytes s

-- ---- steps

abbrev pub answer_of : Reading → Answer
answer_of (exact v) = value v
answer_of (pascals v) = value (v * 256)
answer_of (gone n) = missing n

unfoldable mutual
  pub steps_in : Group → List Step
  steps_in (of_slot time t p h) = slot time (answer_of t) (answer_of p) (answer_of h) ∷ []
  steps_in (of_groups g gs) = around (steps_in g) ++ steps_in_all gs

  pub steps_in_all : Groups → List Step
  steps_in_all none = []
  steps_in_all (more g gs) = around (steps_in g) ++ steps_in_all gs

abbrev pub steps_of : Group → List Step
steps_of g = around (steps_in g)

-- ---- the same visit with no whole pascals

abbrev pub plain_reading : Reading → Reading
plain_reading (exact v) = exact v
plain_reading (pascals v) = exact (v * 256)
plain_reading (gone n) = gone n

unfoldable mutual
  pub plain : Group → Group
  plain (of_slot time t p h) = of_slot time (plain_reading t) (plain_reading p) (plain_reading h)
  plain (of_groups g gs) = of_groups (plain g) (plain_all gs)

  pub plain_all : Groups → Groups
  plain_all none = none
  plain_all (more g gs) = more (plain g) (plain_all gs)
