-- What an event adds to the history. Of the machine nothing is looked at but what the event hands back: whether it was done, and the byte that it gave.
use Rattle.std.specs.Prelude.{ℕ, cond, List, [], ◌∷◌, ◌++◌, eqb, Option, None, Some}
use Rattle.paper.specs.Numbers.{done}
use Rattle.kinds.specs.declared.Kind.{Kind}
use Rattle.machine.specs.declared.Machine.{Machine}
use Rattle.machine.specs.declared.Event.{Event}
use Rattle.machine.specs.declared.Event.TheVariants.{Power, Copied, Write, Finish, Wake, Open, Byte, Close}
use Rattle.machine.specs.State.{fresh}
use Rattle.machine.specs.Events.{byte_given}
use Rattle.machine.specs.Event.{next, answer}
use Rattle.ledger.specs.Happening.{copied, wrote_f2, wrote_f5, held_f4, took_f4, Happening, began, finished, lost, opened, gave, closed, changed}
use Rattle.ledger.specs.Device.{is_converting, begins_by, device_in}

-- F4 takes effect with v, and a conversion begins or none
abbrev pub takes : {kind : Kind} → List (Happening kind) → ℕ → List (Happening kind)
takes h v = cond (begins_by (device_in h).phase v) (began ∷ changed (took_f4 v) ∷ []) (changed (took_f4 v) ∷ [])

-- F4 is held during a conversion, and otherwise takes effect
abbrev pub writes_f4 : {kind : Kind} → List (Happening kind) → ℕ → List (Happening kind)
writes_f4 h v = cond (is_converting (device_in h).phase) (changed (held_f4 v) ∷ []) (takes h v)

abbrev pub writes : {kind : Kind} → List (Happening kind) → ℕ → ℕ → List (Happening kind)
writes h a v =
    cond (eqb a 0xE0) (lost ∷ [])
    (cond (eqb a 0xF2) (changed (wrote_f2 v) ∷ [])
    (cond (eqb a 0xF5) (changed (wrote_f5 v) ∷ [])
    (writes_f4 h v)))

-- once a conversion has finished, a held F4 takes effect
abbrev pub takes_held : {kind : Kind} → Option ℕ → List (Happening kind) → List (Happening kind)
takes_held None h = []
takes_held (Some v) h = takes h v

-- of an event that is done after the history h, where a byte gave v: the latest first
abbrev pub adds : {kind : Kind} → List (Happening kind) → Event → ℕ → List (Happening kind)
adds h Power v = lost ∷ []
adds h Copied v = changed copied ∷ []
adds h (Write a x) v = writes h a x
adds h (Finish t p u) v = takes_held (device_in h).held (finished t p u ∷ h) ++ finished t p u ∷ []
adds h Wake v = began ∷ []
adds h (Open a) v = opened a ∷ []
adds h Byte v = gave v ∷ []
adds h (Close n) v = closed ∷ []

-- a refused or ignored event, whose number n is not done, adds nothing
abbrev pub added : {kind : Kind} → ℕ → List (Happening kind) → Event → ℕ → List (Happening kind)
added n h e v = cond (eqb n done) (adds h e v) []

-- after a sequence of events, the first one first
abbrev pub added_after : {kind : Kind} → Machine → List (Happening kind) → List Event → List (Happening kind)
added_after m h [] = h
added_after m h (e ∷ es) = added_after (next m e) (added (answer m e) h e (byte_given m).value ++ h) es

-- from the fresh state of a kind of part
abbrev pub history : (kind : Kind) → List Event → List (Happening kind)
history kind es = added_after (fresh kind) [] es
