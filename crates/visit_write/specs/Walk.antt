-- The walk back over the steps: how many bytes they add, and where the groups end that are still to be opened.
use Rattle.std.specs.Prelude.{ℕ, ◌+◌, ◌-◌, List, [], ◌∷◌}
use Rattle.visit.specs.declared.Step.{Step}
use Rattle.visit.specs.declared.Step.TheVariants.{Open, Slot, Close, Stray}
use Rattle.visit_bytes.specs.Bytes.{size}
use Rattle.visit_bytes.specs.Laid.{laid_back}
use Rattle.visit_write.specs.declared.Marks.{Marks}

-- how many bytes the steps add
unfoldable pub size_of : List Step → ℕ
size_of [] = 0
size_of (step ∷ steps) = size step + size_of steps

-- an opened group's end is no longer needed, and a closed one's is the place where the bytes after it begin
abbrev pub moved : Step → ℕ → Marks → ℕ → Marks
moved Open total m at = record { at = at; first = m.second; second = m.third; third = m.fourth; fourth = total }
moved (Slot s) total m at = record { at = at; first = m.first; second = m.second; third = m.third; fourth = m.fourth }
moved Close total m at = record { at = at; first = at; second = m.first; third = m.second; fourth = m.third }
moved Stray total m at = record { at = at; first = m.first; second = m.second; third = m.third; fourth = m.fourth }

-- a step's bytes before those after it, and the marks then
unfoldable pub step_back : Step → ℕ → Marks → List ℕ → Marks × List ℕ
step_back step total m lent =
    let laid = laid_back step (m.first - m.at) m.at lent in
    (moved step total m laid.0, laid.1)
