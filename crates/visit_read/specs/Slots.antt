-- A slot read at an offset, in a group that ends at `end`, and laid down as step k.
use Rattle.std.specs.Prelude.{ℕ, ◌+◌, cond, List, ltb, Result, Ok, Err}
use Rattle.visit.specs.declared.Place.TheVariants as place
use Rattle.visit.specs.declared.Fault.{Fault}
use Rattle.visit.specs.Steps.{Answer, slot}
use Rattle.visit.specs.Answers.{fault}
use Rattle.visit_step.specs.Places.{laid}
use Rattle.visit_field.specs.Front.{front_at}
use Rattle.visit_field.specs.declared.Front.{Front}
use Rattle.visit_field.specs.declared.Front.TheVariants as front
use Rattle.paper.specs.Numbers as no

-- how many steps there are so far, or why there are none
abbrev pub Filling : Type 0
Filling = Result ℕ Fault

-- an answer and where the next field stands; a group is out of place
abbrev pub told : Result Front Fault → Result (Answer × ℕ) Fault
told (Ok (front.Group next)) = Err (fault no.tag_out_of_place next)
told (Ok (front.Told a next)) = Ok (a, next)
told (Err f) = Err f

-- an answer and then what comes after it
abbrev pub on_told : Result (Answer × ℕ) Fault → List ℕ → (Answer → ℕ → Filling × List ℕ) → Filling × List ℕ
on_told (Ok x) list g = g x.0 x.1
on_told (Err f) list g = (Err f, list)

unfoldable pub slot_at : List ℕ → ℕ → ℕ → ℕ → ℕ → List ℕ → Filling × List ℕ
slot_at s end time at k list =
    on_told (told (front_at place.Temperature s end at)) list
    (λ t next. on_told (told (front_at place.Pressure s end next)) list
    (λ p next. on_told (told (front_at place.Humidity s end next)) list
    (λ h next. cond (ltb next end) (Err (fault no.tag_out_of_place next), list) (Ok (k + 1), laid (slot time t p h) k list))))

-- a first answer in a body is its slot's time
unfoldable pub slot_by : List ℕ → ℕ → Answer → ℕ → ℕ → List ℕ → Filling × List ℕ
slot_by s end (Ok time) at k list = slot_at s end time at k list
slot_by s end (Err a) at k list = (Err (fault no.tag_out_of_place at), list)
