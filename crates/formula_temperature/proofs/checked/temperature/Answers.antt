-- `temperature::checked::temperature` meets its contract: both lines end in a step of 32 bits, so their values are numbers of 32 bits.
use mathlib.Core.Path.{◌≡◌, sym, ◌∙◌}
use lib.IntN.{ℤ}
use mir.Syntax.{w32, w64}
use mir.Val.{SFits}
use mir.Facts.{to_z-of_z}
use Rattle.std.proofs.Common.{rules}
use borrow.Author.Tests.{ltb-true}
use Rattle.std.specs.Prelude.{Ok}
use Rattle.steps.specs.declared.Signed.TheVariants.{Bits32}
use Rattle.steps.specs.Work.{Work, run}
use Rattle.steps.proofs.Held.{EndsInStep, held}
use Rattle.formula_temperature.specs.Temperature.{fine_lines, degrees_line, temperature_of}
use Rattle.formula_temperature.proofs.checked.temperature.Goals as goal
use Rattle.formula_temperature.proofs.checked.temperature.Goals.{After-degrees, In_ok-fine, In_ok-value}

fits-32 : (e : Work) (x : ℤ) → EndsInStep e → run Bits32 e ≡ Ok x → SFits w32 x
fits-32 e x t h = record { sfits = ltb-true _ _ (held Bits32 e x t h) }

fine-is : (c : In_ok-fine) → run Bits32 (fine_lines c.args.words c.args.count) ≡ Ok c.in_ok-fine.fine
fine-is c = sym c.fine.ensures ∙ c.in_ok-fine.was

fine-fits : (c : In_ok-fine) → SFits w32 c.in_ok-fine.fine
unfolding fine_lines
fine-fits c = fits-32 (fine_lines c.args.words c.args.count) c.in_ok-fine.fine (λ x y. tt) (fine-is c)

degrees-is : (c : After-degrees) → c.degrees.result ≡ run Bits32 (degrees_line c.in_ok-fine.fine)
degrees-is c =
    let h : SFits w64 c.in_ok-fine.fine = search rules in
    rw (to_z-of_z h) at c.degrees.ensures

value-is : (c : In_ok-value) → run Bits32 (degrees_line c.in_ok-fine.fine) ≡ Ok c.in_ok-value.value
value-is c = sym (degrees-is c.before.before) ∙ c.in_ok-value.was

value-fits : (c : In_ok-value) → SFits w32 c.in_ok-value.value
unfolding degrees_line
value-fits c = fits-32 (degrees_line c.in_ok-fine.fine) c.in_ok-value.value tt (value-is c)

pub returns-in_err-fine : goal.returns-in_err-fine
unfolding temperature_of
returns-in_err-fine c = rw (sym c.fine.ensures ∙ c.in_err-fine.was) (search rules)

pub returns-in_err-value : goal.returns-in_err-value
unfolding temperature_of
returns-in_err-value c =
    rw (fine-is c.before.before.before.before, sym (degrees-is c.before.before.before) ∙ c.in_err-value.was) (search rules)

pub overflow_cast-result : goal.overflow_cast-result
overflow_cast-result c =
    let h : SFits w64 c.in_ok-value.value = search rules in
    rw (to_z-of_z h) (value-fits c)

pub overflow_cast-result-2 : goal.overflow_cast-result-2
overflow_cast-result-2 c =
    let h : SFits w64 c.in_ok-fine.fine = search rules in
    rw (to_z-of_z h) (fine-fits c.before.before.before)

pub returns : goal.returns
unfolding temperature_of
returns c =
    let hv : SFits w64 c.in_ok-value.value = search rules in
    let hx : SFits w64 c.in_ok-fine.fine = search rules in
    rw (to_z-of_z hv, to_z-of_z hx, to_z-of_z (value-fits c), to_z-of_z (fine-fits c.before.before.before), fine-is c.before.before.before, value-is c)
