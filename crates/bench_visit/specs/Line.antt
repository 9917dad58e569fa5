-- The steps among the words of a line, laid in a list: each word is one, and where one is none, or has no room, there are no steps.
use Rattle.std.specs.Prelude.{ℕ, ◌+◌, ◌/◌, ◌≤◌, Bool, true, false, cond, List, [], ◌∷◌, ◌++◌, ◌≡◌, eqb, ltb, length, take, Option, Some, None}
use Rattle.visit.specs.declared.Step.{Step}
use Rattle.visit.specs.declared.Step.TheVariants.{Open, Slot, Close, Stray}
use Rattle.visit.specs.Words.{words_each, words}
use Rattle.visit_step.specs.Places as places
use Rattle.bench_step.specs.Reading.{step}

-- ---- the words of a text, parted at each space: two spaces in a row, or one at either end, make a word of no characters

abbrev pub onto : ℕ → List (List ℕ) → List (List ℕ)
onto byte [] = (byte ∷ []) ∷ []
onto byte (first ∷ others) = (byte ∷ first) ∷ others

unfoldable pub parted : List ℕ → List (List ℕ)
parted [] = [] ∷ []
parted (byte ∷ rest) = cond (eqb byte 32) ([] ∷ parted rest) (onto byte (parted rest))

-- what stands after a word: nothing at the line's end, and otherwise a space and then words
abbrev pub following : List ℕ → List (List ℕ)
following [] = []
following (space ∷ rest) = parted rest

-- ---- steps

abbrev pub is_stray : Step → Bool
is_stray Open = false
is_stray (Slot s) = false
is_stray Close = false
is_stray Stray = true

-- the words of all steps, or none where there is no list of them
abbrev pub Flat : Type 0
Flat = Option (List ℕ)

-- from the k-th step on, after the words of those before it, with room for so many in all; a line of 4,096 bytes has no more than the bench has room for
unfoldable pub laid : ℕ → ℕ → List ℕ → List (List ℕ) → Flat
laid room k held [] = Some held
laid room k held (word ∷ more) =
    cond (is_stray (step word)) None (cond (ltb k room) (laid room (k + 1) (held ++ words (step word)) more) None)

-- ---- in a lent list

-- whether a step was laid at a place, and the list afterwards
unfoldable pub placed : Step → ℕ → List ℕ → Bool × List ℕ
placed s k list = cond (is_stray s) (false, list) (ltb k (length list / words_each), places.laid s k list)

-- how much of a list is laid
abbrev pub front : Option ℕ → List ℕ → Flat
front (Some n) list = Some (take n list)
front None list = None

abbrev pub count : Option ℕ → ℕ
count (Some n) = n
count None = 0

pub record Lays (r : Option ℕ) (list : List ℕ) (all : Flat) : Type 0 where
  pub same : front r list ≡ all
  pub within : count r ≤ length list
