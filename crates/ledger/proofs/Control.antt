-- The machine's rules for phases are the history's: what F4 makes of them, and what a finish does.
use Prim.Native.Nat.{ℕ, zero, suc, ◌-◌, ◌*◌, ◌/◌, ◌%◌, ◌<◌}
use mathlib.Core.Path.{◌≡◌, refl, ap, ◌∙◌}
use mathlib.Core.Bool.{Bool, true, false, cond, ◌&&◌, ◌||◌, false≢true, true≢false}
use native.Mathlib.Omega.{arith}
use lib.Dec.{eqb}
use Rattle.std.specs.Prelude.{Option, None, Some}
use Rattle.machine.specs.declared.Phase.{Phase}
use Rattle.machine.specs.declared.Phase.TheVariants.{Sleep, Forced, Normal, Standby}
use Rattle.machine.specs.declared.Device.{Device}
use Rattle.machine.specs.Fields.{with_held, with_phase, with_copying}
use Rattle.machine.specs.State.{runs, sleeps, stands_by}
use Rattle.machine.specs.Control as control
use Rattle.machine.specs.Control.{controlled}
use Rattle.machine.specs.Events.{rested}
use Rattle.ledger.specs.Happening.{took_f4}
use Rattle.ledger.specs.Device.{is_sleep, is_converting, is_forced, is_standby, begins_by, changes, begins, finishes}
use Rattle.ledger.specs.Answers as answers

-- ---- tests of the phase

pub runs-is : (p : Phase) → runs p ≡ is_converting p
runs-is Sleep = refl
runs-is Forced = refl
runs-is Normal = refl
runs-is Standby = refl

pub sleeps-is : (p : Phase) → sleeps p ≡ is_sleep p
sleeps-is Sleep = refl
sleeps-is Forced = refl
sleeps-is Normal = refl
sleeps-is Standby = refl

pub stands-is : (p : Phase) → stands_by p ≡ is_standby p
stands-is Sleep = refl
stands-is Forced = refl
stands-is Normal = refl
stands-is Standby = refl

-- ---- F4 takes effect in sleep or standby: by its mode, one of four

four : (P : ℕ → Type 0) → P 0 → P 1 → P 2 → P 3 → (r : ℕ) → r < 4 → P r
four P a b c d zero l = a
four P a b c d (suc zero) l = b
four P a b c d (suc (suc zero)) l = c
four P a b c d (suc (suc (suc zero))) l = d
four P a b c d (suc (suc (suc (suc r)))) l = absurd (omega arith)

-- the machine's phase after F4, by the mode r
abbrev after : Phase → ℕ → Phase
after p r = cond (eqb r 0) Sleep (cond (eqb r 3) (cond (stands_by p) Standby Normal) Forced)

-- the history's rule
abbrev starts : Phase → ℕ → Bool
starts p r = (eqb r 1 || eqb r 2) || (eqb r 3 && is_sleep p)

abbrev taken : Phase → ℕ → Phase
taken p r = cond (eqb r 3 && is_standby p) Standby Sleep

record Agrees (p : Phase) (r : ℕ) : Type 0 where
  pub begins-is : runs (after p r) ≡ starts p r
  pub begun-is : starts p r ≡ true → after p r ≡ cond (is_standby (taken p r) || eqb r 3) Normal Forced
  pub else_is : starts p r ≡ false → after p r ≡ taken p r

agrees : (p : Phase) → runs p ≡ false → (r : ℕ) → r < 4 → Agrees p r
agrees Sleep i = four (Agrees Sleep)
    (record { begins-is = refl; begun-is = λ e. absurd (false≢true e); else_is = λ e. refl })
    (record { begins-is = refl; begun-is = λ e. refl; else_is = λ e. absurd (true≢false e) })
    (record { begins-is = refl; begun-is = λ e. refl; else_is = λ e. absurd (true≢false e) })
    (record { begins-is = refl; begun-is = λ e. refl; else_is = λ e. absurd (true≢false e) })
agrees Forced i = absurd (true≢false i)
agrees Normal i = absurd (true≢false i)
agrees Standby i = four (Agrees Standby)
    (record { begins-is = refl; begun-is = λ e. absurd (false≢true e); else_is = λ e. refl })
    (record { begins-is = refl; begun-is = λ e. refl; else_is = λ e. absurd (true≢false e) })
    (record { begins-is = refl; begun-is = λ e. refl; else_is = λ e. absurd (true≢false e) })
    (record { begins-is = refl; begun-is = λ e. absurd (false≢true e); else_is = λ e. refl })

-- the device goes on in the phase q, and copies if that begins a conversion
enters-as : (d : Device) {p q : Phase} {b : Bool} → p ≡ q → runs p ≡ b → control.entered p d ≡ with_phase q (with_copying (b || d.copying) d)
enters-as d e f = rw (f, e)

module _ (d : Device) (v : ℕ) (idle : runs d.phase ≡ false) where
  by_mode : Agrees d.phase (v % 4)
  by_mode = agrees d.phase idle (v % 4) (omega arith)

  pub begins-is : control.begins d.phase v ≡ begins_by d.phase v
  begins-is = by_mode.begins-is

  pub takes-begun : begins_by d.phase v ≡ true → controlled d v ≡ begins (changes (took_f4 v) d)
  takes-begun e = enters-as (changes (took_f4 v) d) (by_mode.begun-is e) (begins-is ∙ e)

  pub takes-else : begins_by d.phase v ≡ false → controlled d v ≡ changes (took_f4 v) d
  takes-else e = enters-as (changes (took_f4 v) d) (by_mode.else_is e) (begins-is ∙ e)

-- ---- a finish

-- the machine rests, and what was held is taken out
pub rests-as : (d : Device) → with_held None (rested d) ≡ finishes d
rests-as d = at d.phase refl
  where
    cleared : d.f4 / 4 * 4 ≡ d.f4 - d.f4 % 4
    cleared = omega arith

    at : (p : Phase) → d.phase ≡ p → with_held None (rested d) ≡ finishes d
    at Sleep e = rw e
    at Forced e = rw (e, cleared)
    at Normal e = rw e
    at Standby e = rw e

pub rested-phase : (d : Device) → (rested d).phase ≡ (finishes d).phase
rested-phase d = ap (λ (d : Device). d.phase) (rests-as d)

pub finished-idle : (d : Device) → runs (finishes d).phase ≡ false
finished-idle d = at (is_forced d.phase)
  where
    at : (b : Bool) → runs (cond b Sleep Standby) ≡ false
    at true = refl
    at false = refl

-- the held F4
pub held-begins-is : (q : Option ℕ) (p : Phase) → runs p ≡ false → control.held_begins q p ≡ answers.held_begins q p
held-begins-is None p i = refl
held-begins-is (Some v) p i = (agrees p i (v % 4) (omega arith)).begins-is

-- ---- a wake

pub standing-idle : (p : Phase) → stands_by p ≡ true → runs p ≡ false
standing-idle Sleep e = refl
standing-idle Forced e = absurd (false≢true e)
standing-idle Normal e = absurd (false≢true e)
standing-idle Standby e = refl

pub wakes-as : (d : Device) → stands_by d.phase ≡ true → begins d ≡ control.entered Normal d
wakes-as d e = rw (← stands-is d.phase, e)
