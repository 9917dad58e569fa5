-- The writer. Its checks are one walk over the steps with a small state. Its bytes are worked out from the last step back, so that
-- a group's length is known where its header is written.
use Rattle.std.specs.Prelude.{ℕ, zero, suc, ◌+◌, Bool, cond, ◌&&◌, List, [], ◌∷◌, ◌++◌, ltb, leb, Result, Ok, Err}
use Rattle.visit.specs.declared.Place.{Place}
use Rattle.visit.specs.declared.Place.TheVariants as place
use Rattle.visit.specs.declared.Holds.{Holds}
use Rattle.visit.specs.declared.Holds.TheVariants as holds
use Rattle.visit.specs.declared.Stage.{Stage}
use Rattle.visit.specs.declared.Stage.TheVariants as stage
use Rattle.visit.specs.Steps.{Slot, Answer, value, Step, opened, slotted, closed, stray}
use Rattle.visit.specs.Tags as tag
use Rattle.visit.specs.Tree.{tag_of, most, four_bytes, framed}
use Rattle.paper.specs.Numbers as no
use Rattle.paper.specs.Answers.{refusal}
use Rattle.paper.specs.declared.Refusal.{Refusal}

-- ---- the checks

-- what a step makes of a stage
abbrev pub Turn : Type 0
Turn = Result Stage Refusal

abbrev pub onward : Stage → Turn
onward next = Ok next

abbrev pub halt : ℕ → Turn
halt number = Err (refusal number)

abbrev pub is_within : Place → Answer → Bool
is_within p (Ok v) = leb v (most p)
is_within p (Err a) = leb tag.first_missing a.number && leb a.number tag.last_missing

unfoldable pub slot_fits : Slot → Bool
slot_fits s =
    leb s.time (most place.First)
    && (is_within place.Temperature s.temperature && (is_within place.Pressure s.pressure && is_within place.Humidity s.humidity))

-- 21 where no level is left
abbrev pub deeper : ℕ → Turn
deeper zero = halt no.too_deep
deeper (suc l) = onward (stage.Open l holds.Nothing)

-- after a close: the record's own group has three levels under it
abbrev pub up : ℕ → Stage
up l = cond (ltb l 3) (stage.Open (suc l) holds.Groups) stage.Done

abbrev pub from_start : Step → Turn
from_start opened = onward (stage.Open 3 holds.Nothing)
from_start (slotted s) = halt no.tag_out_of_place
from_start closed = halt no.tag_out_of_place
from_start stray = halt no.tag_out_of_place

-- 22 where a value is outside its limits
abbrev pub slot_taken : ℕ → Slot → Turn
slot_taken l s = cond (slot_fits s) (onward (stage.Open l holds.Slot)) (halt no.value_outside)

abbrev pub from_nothing : ℕ → Step → Turn
from_nothing l opened = deeper l
from_nothing l (slotted s) = slot_taken l s
from_nothing l closed = halt no.tag_out_of_place
from_nothing l stray = halt no.tag_out_of_place

abbrev pub from_groups : ℕ → Step → Turn
from_groups l opened = deeper l
from_groups l (slotted s) = halt no.tag_out_of_place
from_groups l closed = onward (up l)
from_groups l stray = halt no.tag_out_of_place

abbrev pub from_slot : ℕ → Step → Turn
from_slot l opened = halt no.tag_out_of_place
from_slot l (slotted s) = halt no.tag_out_of_place
from_slot l closed = onward (up l)
from_slot l stray = halt no.tag_out_of_place

abbrev pub from_open : ℕ → Holds → Step → Turn
from_open l holds.Nothing s = from_nothing l s
from_open l holds.Groups s = from_groups l s
from_open l holds.Slot s = from_slot l s

unfoldable pub turn : Stage → Step → Turn
turn stage.Start s = from_start s
turn (stage.Open l held) s = from_open l held s
turn stage.Done s = halt no.tag_out_of_place

-- all steps taken, or a number and the place of a step
pub data Checked : Type 0 where
  fine : Checked
  wrong : ℕ → ℕ → Checked

abbrev pub at_end : Stage → ℕ → Checked
at_end stage.Start i = wrong no.tag_out_of_place i
at_end (stage.Open l held) i = wrong no.tag_out_of_place i
at_end stage.Done i = fine

abbrev pub go_on : Turn → ℕ → (Stage → Checked) → Checked
go_on (Ok st) i k = k st
go_on (Err r) i k = wrong r.number i

unfoldable pub checked : Stage → List Step → ℕ → Checked
checked st [] i = at_end st i
checked st (s ∷ ss) i = go_on (turn st s) i (λ next. checked next ss (i + 1))

-- ---- the bytes

abbrev pub answer_bytes : Place → Answer → List ℕ
answer_bytes p (Ok v) = tag_of p ∷ 0 ∷ 4 ∷ four_bytes v
answer_bytes p (Err a) = tag.missing ∷ 0 ∷ 2 ∷ tag_of p ∷ a.number ∷ []

abbrev pub step_bytes : Slot → List ℕ
step_bytes s =
    answer_bytes place.First (value s.time)
    ++ (answer_bytes place.Temperature s.temperature ++ (answer_bytes place.Pressure s.pressure ++ answer_bytes place.Humidity s.humidity))

-- the bytes of the innermost group that is still to be opened, and of those around it
pub record Frames : Type 0 where
  pub inner : List ℕ
  pub outer : List (List ℕ)

abbrev pub onto : List ℕ → Frames → Frames
onto bytes f = record { inner = bytes ++ f.inner; outer = f.outer }

abbrev pub framed_onto : List ℕ → List (List ℕ) → Frames
framed_onto body [] = record { inner = framed body; outer = [] }
framed_onto body (b ∷ bs) = record { inner = framed body ++ b; outer = bs }

unfoldable pub frames : List Step → Frames
frames [] = record { inner = []; outer = [] }
frames (opened ∷ ss) = framed_onto (frames ss).inner (frames ss).outer
frames (slotted s ∷ ss) = onto (step_bytes s) (frames ss)
frames (closed ∷ ss) = record { inner = []; outer = (frames ss).inner ∷ (frames ss).outer }
frames (stray ∷ ss) = frames ss

abbrev pub bytes_of : List Step → List ℕ
bytes_of ss = (frames ss).inner
