-- `humidity::plain::level` meets its contract: each step stays within its width, by the bounds of its operands.
use mathlib.Core.Path.{refl}
use lib.IntN.{pos}
use mir.Syntax.{w16}
use mir.Val.{SFits}
use Rattle.std.proofs.Common.{rules}
use Rattle.steps.specs.declared.Signed.TheVariants.{Bits32}
use Rattle.steps.specs.Work.{given, num}
use Rattle.formula_humidity.specs.Humidity.{level_factor}
use Rattle.formula.specs.Plain.{Gives}
use Rattle.formula.proofs.Bounds.{fit, within, Read, plainly, natural, word, literal, up, down, times, plus, minus}
use Rattle.formula_humidity.proofs.plain.level.Goals as goal
use Rattle.formula_humidity.proofs.plain.level.Goals.{Start}

h4-fits : (c : Start) → SFits w16 c.args.words.h4
h4-fits c = search rules

h5-fits : (c : Start) → SFits w16 c.args.words.h5
h5-fits c = search rules

adc : (c : Start) → Gives Bits32 65535 (num c.args.count) (pos c.args.count)
adc c = natural c.args.count c.requires.1.0 refl

v : (c : Start) → Gives Bits32 401200 (given c.args.v) c.args.v
v c = plainly c.requires.1.1 refl

h4 : (c : Start) → Read Bits32 w16 512 c.args.words.h4
h4 c = word (h4-fits c) c.requires.0.h4 refl

h5 : (c : Start) → Read Bits32 w16 512 c.args.words.h5
h5 c = word (h5-fits c) c.requires.0.h5 refl

pub overflow_sub-result-2 : goal.overflow_sub-result-2
overflow_sub-result-2 c = let s = c.before.before.before.before in fit (minus (minus (up (adc s) 14 refl) (up (h4 s) 20 refl) refl) (times (h5 s) (v s) refl) refl)

pub overflow_add-result : goal.overflow_add-result
overflow_add-result c =
    let s = c.before.before.before.before in
    let warm = minus (minus (up (adc s) 14 refl) (up (h4 s) 20 refl) refl) (times (h5 s) (v s) refl) refl in
    fit (plus warm (literal 16384 refl) refl)

pub returns : goal.returns
unfolding level_factor
returns c =
    let s = c.before.before.before.before in
    let warm = minus (minus (up (adc s) 14 refl) (up (h4 s) 20 refl) refl) (times (h5 s) (v s) refl) refl in
    within (down (plus warm (literal 16384 refl) refl) 15 refl) 55421 refl refl
