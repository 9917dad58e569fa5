-- `humidity::plain::bend` meets its contract: each step stays within its width, by the bounds of its operands.
use Prim.Native.Nat.{◌≤◌}
use mathlib.Core.Path.{refl}
use lib.IntN.{pos}
use mir.Syntax.{w8}
use mir.Val.{SFits}
use Rattle.std.proofs.Common.{rules}
use Rattle.steps.specs.declared.Signed.TheVariants.{Bits32}
use Rattle.steps.specs.Work.{given, num}
use Rattle.formula_humidity.specs.Humidity.{bend_factor}
use Rattle.formula.specs.Plain.{Gives}
use Rattle.formula.proofs.Bounds.{fit, within, Read, plainly, natural, word, literal, down, times, plus}
use Rattle.formula_humidity.proofs.plain.bend.Goals as goal
use Rattle.formula_humidity.proofs.plain.bend.Goals.{Start}

h6-fits : (c : Start) → SFits w8 c.args.words.h6
h6-fits c = search rules

v : (c : Start) → Gives Bits32 401200 (given c.args.v) c.args.v
v c = plainly c.requires.1 refl

h3 : (c : Start) → Gives Bits32 255 (num c.args.words.h3) (pos c.args.words.h3)
h3 c = let h : c.args.words.h3 ≤ 255 = search rules in natural c.args.words.h3 h refl

h6 : (c : Start) → Read Bits32 w8 64 c.args.words.h6
h6 c = word (h6-fits c) c.requires.0.h6 refl

pub overflow_mul-result-3 : goal.overflow_mul-result-3
overflow_mul-result-3 c =
    let s = c.before.before.before in
    let right = plus (down (times (v s) (h3 s) refl) 11 refl) (literal 32768 refl) refl in
    fit (times (down (times (v s) (h6 s) refl) 10 refl) right refl)

pub returns : goal.returns
unfolding bend_factor
returns c =
    let s = c.before.before.before in
    let right = plus (down (times (v s) (h3 s) refl) 11 refl) (literal 32768 refl) refl in
    within (down (times (down (times (v s) (h6 s) refl) 10 refl) right refl) 10 refl) 2025745 refl refl
