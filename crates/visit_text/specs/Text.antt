-- A visit as text, step by step. A group's line has its name and its number among its brothers; a slot has four lines, one level deeper.
use Rattle.std.specs.Prelude.{ℕ, ◌*◌, ◌/◌, ◌%◌, ◌^◌, ◌<◌, ◌≡◌, cond, List, [], ◌∷◌, ◌++◌, eqb, take, Ok, Err}
use Rattle.visit.specs.Steps.{Answer}
use Rattle.visit.specs.declared.Step.{Step}
use Rattle.visit.specs.declared.Step.TheVariants.{Open as opened, Slot as slot, Close as closed, Stray as stray}
use Rattle.visit_place.specs.Places.{start, after, number}
use Rattle.visit_place.specs.declared.Place.{Place}
use Rattle.visit_date.specs.Dates.{date}
use Rattle.visit_date.specs.declared.Moment.{Moment}
use Rattle.visit_figures.specs.Figures as figures
use Rattle.bench_page.specs.declared.Page.{Page}
use Rattle.bench_page.specs.Page.{letters, ◌▹◌}
use denote.Ref.{MutBor}
use Rattle.bench_row.specs.Row.{filled}

abbrev pub newline : List ℕ
newline = 10 ∷ []

-- ---- groups: house, floor, room, reading

unfoldable pub group_form : ℕ → List ℕ
group_form level =
    cond (eqb level 1) (letters "house #" ++ newline)
    (cond (eqb level 2) (letters "  floor #" ++ newline)
    (cond (eqb level 3) (letters "    room #" ++ newline)
    (cond (eqb level 4) (letters "      reading #" ++ newline) [])))

unfoldable pub group : ℕ → ℕ → List ℕ
group level number = filled (group_form level) (number ∷ [])

-- ---- the lines of a slot in a group of a level, two spaces deeper than its own line

unfoldable pub named : ℕ → List ℕ → List ℕ
named level name = take (level * 2) (letters "        ") ++ name

-- two digits for each but the year, which has four from 1970 to 2106
abbrev pub date_form : List ℕ
date_form = letters " # (#-##-## ##:##:## UTC)" ++ newline

abbrev pub dated : ℕ → Moment → List ℕ
dated time d =
    filled date_form
    (time ∷ d.year ∷ d.month / 10 ∷ d.month % 10 ∷ d.day / 10 ∷ d.day % 10 ∷ d.hour / 10 ∷ d.hour % 10 ∷ d.minute / 10 ∷ d.minute % 10
    ∷ d.second / 10 ∷ d.second % 10 ∷ [])

unfoldable pub time : ℕ → ℕ → List ℕ
time level seconds = named level (letters "time") ++ dated seconds (date seconds)

-- a missing answer has no figure: its number and its reason stand in its place
unfoldable pub missing : ℕ → List ℕ
missing number = figures.missing number ++ newline

abbrev pub answer : (ℕ → List ℕ) → Answer → List ℕ
answer shown (Ok word) = shown word ++ newline
answer shown (Err absent) = missing absent.number

-- the line of an answer, from its name and how a value of its channel is shown
unfoldable pub answered : ℕ → List ℕ → (ℕ → List ℕ) → Answer → List ℕ
answered level name shown a = named level name ++ answer shown a

-- a closure that writes a value as it is shown
abbrev pub Shows : (ℕ → MutBor Page → Unit {0} → MutBor Page → Type 0) → (ℕ → List ℕ) → Type 0
Shows writes shown =
    (word : ℕ) (page after : MutBor Page) → word < 2 ^ 32 → writes word page tt after → after.now ≡ page.now ▹ shown word

unfoldable pub temperature : ℕ → Answer → List ℕ
temperature level a = answered level (letters "temperature ") figures.temperature a

unfoldable pub pressure : ℕ → Answer → List ℕ
pressure level a = answered level (letters "pressure ") figures.pressure a

unfoldable pub humidity : ℕ → Answer → List ℕ
humidity level a = answered level (letters "humidity ") figures.humidity a

-- ---- the lines of a step, where the walk stands at a place after it

unfoldable pub lines : Place → Step → List ℕ
lines p opened = group p.level (number p)
lines p (slot s) =
    time p.level s.time ++ (temperature p.level s.temperature ++ (pressure p.level s.pressure ++ humidity p.level s.humidity))
lines p closed = []
lines p stray = []

-- ---- the text of a visit, from a place on

unfoldable pub text_from : Place → List Step → List ℕ
text_from p [] = []
text_from p (s ∷ ss) = lines (after p s) s ++ text_from (after p s) ss

abbrev pub text : List Step → List ℕ
text steps = text_from start steps
