-- `pressure::plain::dividend` meets its contract: each step stays within its width, by the bounds of its operands.
use mathlib.Core.Path.{refl}
use lib.IntN.{pos}
use Rattle.steps.specs.declared.Signed.TheVariants.{Bits64}
use Rattle.steps.specs.Work.{given, num}
use Rattle.formula.specs.Plain.{Gives}
use Rattle.formula_pressure.specs.Plain.{dividend_line}
use Rattle.formula.proofs.Bounds.{within, value, onto, plainly, natural, literal, up, minus}
use Rattle.formula_pressure.proofs.plain.dividend.Goals as goal
use Rattle.formula_pressure.proofs.plain.dividend.Goals.{Start}

adc : (s : Start) → Gives Bits64 1048576 (num s.args.count) (pos s.args.count)
adc s = natural s.args.count s.requires.0 refl

var2 : (s : Start) → Gives Bits64 6700000000000000 (given s.args.var2) s.args.var2
var2 s = plainly s.requires.1 refl

pub returns : goal.returns
unfolding dividend_line
returns c =
    let p = minus (literal 1048576 refl) (adc c) refl in
    within {e = dividend_line c.args.count c.args.var2} (onto p (minus (up (value p) 31 refl) (var2 c) refl)) 11300000000000000 refl refl
