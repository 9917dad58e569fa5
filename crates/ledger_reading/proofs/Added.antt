-- What the machine's events add is sound, after every list of them.
use Prim.Native.Nat.{ℕ, ◌<◌}
use mathlib.Core.Path.{◌≡◌, refl, sym, ◌∙◌}
use mathlib.Core.Bool.{Bool, true, false, not, cond, ◌&&◌}
use mathlib.Core.List.{List, [], ◌∷◌, ◌++◌}
use native.Mathlib.Omega.{arith}
use lib.Dec.{eqb, ltb}
use borrow.Author.Tests.{eqb-true, ltb-true}
use Rattle.std.specs.Prelude.{Option, None, Some}
use Rattle.laws.specs.Choices.{pick}
use Rattle.laws.specs.Tests.{both}
use Rattle.paper.specs.Numbers.{done}
use Rattle.kinds.specs.declared.Kind.{Kind}
use Rattle.machine.specs.declared.Machine.{Machine}
use Rattle.machine.specs.declared.Event.{Event}
use Rattle.machine.specs.declared.Event.TheVariants.{Power, Copied, Write, Finish, Wake, Open, Byte, Close}
use Rattle.machine.specs.Events.{byte_given}
use Rattle.machine.specs.Event.{next, answer}
use Rattle.ledger.specs.Happening.{Happening, finished}
use Rattle.ledger.specs.Device.{is_converting, begins_by, device_in}
use Rattle.ledger.specs.Answers.{may_finish_in, number_in}
use Rattle.ledger.specs.Added.{takes, takes_held, writes, adds, added, added_after, history}
use Rattle.ledger.proofs.Kept.{Kept, kept, kept-after}
use Rattle.ledger.proofs.Numbers.{number_is}
use Rattle.ledger_reading.specs.Reading.{WritesBytes}
use Rattle.ledger_reading.proofs.Sound.{Good, Sound, HeldFits, device-fits}

-- a check that must hold, and a number that is not done where it fails
passes : (b : Bool) (n k : ℕ) → 0 < n → cond (not b) n k ≡ 0 → (b ≡ true) × (k ≡ 0)
passes true n k p e = (refl, e)
passes false n k p e = absurd (omega arith)

module _ {kind : Kind} (h : List (Happening kind)) (s : Sound h) where
  abbrev Then : List (Happening kind) → Type 0
  Then l = Sound (l ++ h)

  by-takes : (v : ℕ) → v < 256 → Then (takes h v)
  by-takes v b = pick Then (begins_by (device_in h).phase v) (λ _. (tt, (b, s))) (λ _. (b, s))

  by-write : (a v : ℕ) → v < 256 → Then (writes h a v)
  by-write a v b =
      pick Then (eqb a 0xE0) (λ _. (tt, s)) λ _.
      pick Then (eqb a 0xF2) (λ _. (tt, s)) λ _.
      pick Then (eqb a 0xF5) (λ _. (tt, s)) λ _.
      pick Then (is_converting (device_in h).phase) (λ _. (b, s)) (λ _. by-takes v b)

-- a conversion finishes, and then what is held takes effect
module _ {kind : Kind} (t p u : ℕ) (h : List (Happening kind)) (s : Sound (finished t p u ∷ h)) where
  by-held : (q : Option ℕ) → HeldFits q → Sound ((takes_held q (finished t p u ∷ h) ++ finished t p u ∷ []) ++ h)
  by-held None b = s
  by-held (Some v) b =
      pick (λ (l : List (Happening kind)). Sound ((l ++ finished t p u ∷ []) ++ h)) (begins_by (device_in (finished t p u ∷ h)).phase v) (λ _. (tt, (b, s))) (λ _. (b, s))

good-finish : {kind : Kind} (t p u : ℕ) (h : List (Happening kind)) → number_in h (Finish t p u) ≡ 0 → Good (finished t p u) h
good-finish t p u h e =
    let run = passes (may_finish_in h) 6 _ (omega arith) e in
    let fit = passes (ltb t 0x100000 && (ltb p 0x100000 && ltb u 0x10000)) 7 _ (omega arith) run.1 in
    let x = both (ltb t 0x100000) (ltb p 0x100000 && ltb u 0x10000) fit.0 in
    let y = both (ltb p 0x100000) (ltb u 0x10000) x.1 in (
      (both (is_converting (device_in h).phase) (not (device_in h).copying) run.0).0,
      record { temperature = ltb-true t 0x100000 x.0; pressure = ltb-true p 0x100000 y.0; humidity = ltb-true u 0x10000 y.1 },
    )

-- what a done event adds
sound-adds : {kind : Kind} (h : List (Happening kind)) → Sound h → (e : Event) → WritesBytes (e ∷ []) → number_in h e ≡ 0 → (v : ℕ) → Sound (adds h e v ++ h)
sound-adds h s Power b d v = (tt, s)
sound-adds h s Copied b d v = (tt, s)
sound-adds h s (Write a x) b d v = by-write h s a x b.0
sound-adds h s (Finish t p u) b d v = by-held t p u h (good-finish t p u h d, s) (device_in h).held (device-fits h s).held
sound-adds h s Wake b d v = (tt, s)
sound-adds h s (Open a) b d v = (tt, s)
sound-adds h s Byte b d v = (tt, s)
sound-adds h s (Close n) b d v = (tt, s)

sound-added : {kind : Kind} (m : Machine) (h : List (Happening kind)) → Kept m h → Sound h → (e : Event) → WritesBytes (e ∷ []) → Sound (added (answer m e) h e (byte_given m).value ++ h)
sound-added {kind} m h k s e b =
    pick (λ (l : List (Happening kind)). Sound (l ++ h)) (eqb (answer m e) done)
    (λ d. sound-adds h s e b (sym (number_is m h k e) ∙ eqb-true (answer m e) done d) (byte_given m).value)
    (λ _. s)

-- the first of a list of events, and the rest
split : (e : Event) (es : List Event) → WritesBytes (e ∷ es) → WritesBytes (e ∷ []) × WritesBytes es
split Power es b = (tt, b)
split Copied es b = (tt, b)
split (Write a v) es b = ((b.0, tt), b.1)
split (Finish t p h) es b = (tt, b)
split Wake es b = (tt, b)
split (Open a) es b = (tt, b)
split Byte es b = (tt, b)
split (Close n) es b = (tt, b)

sound-after : {kind : Kind} (m : Machine) (h : List (Happening kind)) → Kept m h → Sound h → (es : List Event) → WritesBytes es → Sound (added_after m h es)
sound-after m h k s [] b = s
sound-after m h k s (e ∷ es) b =
    let c = split e es b in
    sound-after (next m e) (added (answer m e) h e (byte_given m).value ++ h) (kept-after m h (e ∷ []) k) (sound-added m h k s e c.0) es c.1

pub sound : (kind : Kind) (es : List Event) → WritesBytes es → Sound (history kind es)
sound kind es b = sound-after _ [] (kept kind []) tt es b
