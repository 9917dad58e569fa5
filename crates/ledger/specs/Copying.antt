-- What copying holds up. While it goes on, each finish is refused with 6 and changes nothing. So a conversion whose calibration is never copied is not finished:
-- it runs and stands until a reset or power event, which abandons it (proofs/Copying.antt).
use Rattle.std.specs.Prelude.{ℕ, ◌≡◌, Bool, true, false, not, ◌&&◌, List, [], ◌∷◌, ◌++◌, eqb}
use Rattle.paper.specs.Numbers.{wrong_phase}
use Rattle.kinds.specs.declared.Kind.{Kind}
use Rattle.machine.specs.declared.Phase.TheVariants.{Standby}
use Rattle.machine.specs.declared.Device.{Device}
use Rattle.machine.specs.declared.Machine.{Machine}
use Rattle.machine.specs.declared.Event.{Event}
use Rattle.machine.specs.declared.Event.TheVariants.{Power, Copied, Write, Finish, Wake, Open, Byte, Close}
use Rattle.machine.specs.State.{fresh}
use Rattle.machine.specs.Event.{next, answer, after}
use Rattle.machine.specs.Refused.{Unchanged}
use Rattle.ledger.specs.Happening.{Happening}
use Rattle.ledger.specs.Device.{is_converting, device_in}
use Rattle.ledger.specs.Added.{history}
use Rattle.ledger.specs.History.{running, begun_in, open_in, where_is, standing, abandoned}

-- ---- a finish waits, after whatever history h that led to the machine m

pub record FinishWaits {kind : Kind} (m : Machine) (h : List (Happening kind)) : Type 0 where
  pub number_is : (device_in h).copying ≡ true → (t p u : ℕ) → answer m (Finish t p u) ≡ wrong_phase
  pub leaves_all : (device_in h).copying ≡ true → (t p u : ℕ) → Unchanged m (Finish t p u)

-- and so no standby is copying

pub record StandbyIsCopied (m : Machine) : Type 0 where
  pub not-copying : m.device.phase ≡ Standby → m.device.copying ≡ false

-- ---- what ends the wait

-- the calibration is being copied, and a conversion is running
abbrev pub awaits_copied : Device → Bool
awaits_copied d = d.copying && is_converting d.phase

-- copied, power, and the reset word written to E0 unless a burst is open (o)
abbrev pub ends_wait : Bool → Event → Bool
ends_wait o Power = true
ends_wait o Copied = true
ends_wait o (Write a v) = not o && (eqb a 0xE0 && eqb v 0xB6)
ends_wait o (Finish t p u) = false
ends_wait o Wake = false
ends_wait o (Open a) = false
ends_wait o Byte = false
ends_wait o (Close n) = false

-- each of these does
pub record EndsTheWait {kind : Kind} (m : Machine) (h : List (Happening kind)) (e : Event) : Type 0 where
  pub awaits-no-more : ends_wait (open_in h) e ≡ true → awaits_copied (next m e).device ≡ false

-- ---- nothing else does: what is never copied stands

-- after the events es, none of fs is one that would
abbrev pub NoneEnds : Kind → List Event → List Event → Type 0
NoneEnds kind es [] = Unit {0}
NoneEnds kind es (f ∷ fs) = (ends_wait (open_in (history kind es)) f ≡ false) × NoneEnds kind (es ++ f ∷ []) fs

-- None has begun since es. The last one still runs, waits and stands, and power or a reset abandons it.
pub record StandsUncopied (kind : Kind) (es fs : List Event) : Type 0 where
  pub awaits-still : awaits_copied (after (fresh kind) (es ++ fs)).device ≡ true
  pub begun-is : (after (fresh kind) (es ++ fs)).ledger.begun ≡ begun_in (history kind es)
  pub running-is : where_is (history kind (es ++ fs)) (begun_in (history kind es)) ≡ running
  pub standing-is : standing (history kind (es ++ fs)) (begun_in (history kind es)) ≡ true
  pub power-abandons : abandoned (history kind ((es ++ fs) ++ Power ∷ [])) (begun_in (history kind es)) ≡ true
  pub reset-abandons : open_in (history kind (es ++ fs)) ≡ false → abandoned (history kind ((es ++ fs) ++ Write 0xE0 0xB6 ∷ [])) (begun_in (history kind es)) ≡ true
