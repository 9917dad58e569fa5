-- The fresh state after n conversions is one that events lead to.
use Prim.Native.Nat.{ℕ, zero, suc, ◌≤◌}
use mathlib.Core.Path.{◌≡◌, refl, sym, ap, ap₂, ◌∙◌}
use mathlib.Core.List.{List, [], ◌∷◌}
use native.Mathlib.Omega.{arith}
use lib.ListN.{length}
use Rattle.paper.specs.Registers as reg
use Rattle.kinds.specs.Chips.{facts}
use Rattle.kinds.specs.declared.Kind.{Kind}
use Rattle.kinds.specs.declared.Kind.TheVariants.{Bme280, Bmp280}
use Rattle.machine.specs.declared.Ledger.{Ledger}
use Rattle.machine.specs.declared.Machine.{Machine}
use Rattle.machine.specs.declared.Event.{Event}
use Rattle.machine.specs.declared.Event.TheVariants.{Power, Copied}
use Rattle.machine.specs.State.{fresh, fresh_with, fresh_after}
use Rattle.machine.specs.Counts.{abandoned_all}
use Rattle.machine.specs.Event.{after}
use Rattle.ledger.specs.Alive.{Fits, IsForced, forced_turns, AllForced, all_delivered, plain_turn, plain_turns, leading_to, GoesOnFrom}
use Rattle.ledger.proofs.Theorems.{counts-are-true}
use Rattle.ledger.proofs.Alive.{kind-now, after-append}
use Rattle.ledger.proofs.Turns.{forced-turns-run-truly}

lends : (kind : Kind) → length (plain_turn kind).lent ≡ (facts kind).bytes
lends Bme280 = refl
lends Bmp280 = refl

fits : (kind : Kind) → Fits kind (plain_turn kind)
fits kind = record { temperature-fits = omega arith; pressure-fits = omega arith; humidity-fits = omega arith; lends-all = lends kind }

is-forced : (kind : Kind) → IsForced (plain_turn kind)
is-forced kind = record { not-sleep = λ e. omega arith; not-normal = λ e. omega arith }

all-forced : (kind : Kind) (n : ℕ) → AllForced kind (plain_turns kind n)
all-forced kind zero = tt
all-forced kind (suc n) = (fits kind, is-forced kind, all-forced kind n)

as_many : (kind : Kind) (n : ℕ) → length (plain_turns kind n) ≡ n
as_many kind zero = refl
as_many kind (suc n) = ap suc (as_many kind n)

module _ (kind : Kind) (n : ℕ) (room : n ≤ reg.most_begun) where
  tally-is : (after (fresh kind) (Copied ∷ forced_turns kind (plain_turns kind n))).ledger ≡ all_delivered n
  tally-is =
      (forced-turns-run-truly kind (plain_turns kind n) (all-forced kind n) (rw (as_many kind n) room)).tally-is ∙ ap all_delivered (as_many kind n)

  reached : fresh_after kind n ≡ after (fresh kind) (leading_to kind n)
  reached =
      let turns = Copied ∷ forced_turns kind (plain_turns kind n) in
      sym (after-append (fresh kind) turns (Power ∷ []) ∙ ap₂ (λ (x : Kind) (l : Ledger). fresh_with x (abandoned_all l)) (kind-now kind turns) tally-is)

  pub goes_on : (es : List Event) → GoesOnFrom kind n es
  goes_on es = record {
    machine-is = ap (λ (m : Machine). after m es) reached ∙ sym (after-append (fresh kind) (leading_to kind n) es);
    begun-is = sym (counts-are-true kind (leading_to kind n)).begun-is ∙ ap (λ (m : Machine). m.ledger.begun) (sym reached);
  }
