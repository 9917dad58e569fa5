-- `humidity::plain::gain` meets its contract: each step stays within its width, by the bounds of its operands.
use mathlib.Core.Path.{refl}
use mir.Syntax.{w16}
use mir.Val.{SFits}
use mir.Facts.{to_z-of_z}
use Rattle.std.proofs.Common.{rules}
use Rattle.steps.specs.declared.Signed.TheVariants.{Bits32}
use Rattle.formula_humidity.specs.Humidity.{bend_factor, gain_factor}
use Rattle.formula.specs.Plain.{Gives}
use Rattle.formula.proofs.Bounds.{fit, within, Read, word, literal, down, times, plus}
use Rattle.formula_humidity.proofs.plain.gain.Goals as goal
use Rattle.formula_humidity.proofs.plain.gain.Goals.{After-bend, Start}

h2-fits : (c : Start) → SFits w16 c.args.words.h2
h2-fits c = search rules

h2 : (c : Start) → Read Bits32 w16 512 c.args.words.h2
h2 c = word (h2-fits c) c.requires.0.h2 refl

bent : (c : After-bend) → Gives Bits32 2025745 (bend_factor c.before.before.before.args.words c.before.before.before.args.v) c.bend.result
bent c = rw (to_z-of_z c.before.before.before.ranges.v) at c.bend.ensures

pub overflow_add-result-2 : goal.overflow_add-result-2
overflow_add-result-2 c = fit (plus (times (plus (bent c) (literal 2097152 refl) refl) (h2 c.before.before.before) refl) (literal 8192 refl) refl)

pub returns : goal.returns
unfolding gain_factor
returns c =
    let sum = plus (times (plus (bent c) (literal 2097152 refl) refl) (h2 c.before.before.before) refl) (literal 8192 refl) refl in
    within (down sum 14 refl) 128842 refl refl
