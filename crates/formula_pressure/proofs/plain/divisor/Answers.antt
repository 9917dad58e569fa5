-- `pressure::plain::divisor` meets its contract: each step stays within its width, by the bounds of its operands.
use mathlib.Core.Path.{refl}
use lib.IntN.{pos}
use mir.Syntax.{w16}
use mir.Val.{SFits}
use Rattle.std.proofs.Common.{rules}
use Rattle.steps.specs.declared.Signed.TheVariants.{Bits64}
use Rattle.steps.specs.Work.{given, num}
use Rattle.formula_pressure.specs.Pressure.{scale_lines}
use Rattle.formula.specs.Plain.{Gives}
use Rattle.formula.proofs.Bounds.{fit, within, value, onto, Read, plainly, natural, word16, literal, up, down, times, plus}
use Rattle.formula_pressure.proofs.plain.divisor.Goals as goal
use Rattle.formula_pressure.proofs.plain.divisor.Goals.{Start}

p2-fits : (s : Start) → SFits w16 s.args.words.p2
p2-fits s = search rules

p3-fits : (s : Start) → SFits w16 s.args.words.p3
p3-fits s = search rules

difference : (s : Start) → Gives Bits64 350000 (given s.args.difference) s.args.difference
difference s = plainly s.requires.0 refl

p1 : (s : Start) → Gives Bits64 45000 (num s.args.words.p1) (pos s.args.words.p1)
p1 s = natural s.args.words.p1 s.requires.1 refl

p2 : (s : Start) → Read Bits64 w16 32768 s.args.words.p2
p2 s = word16 (p2-fits s) refl

p3 : (s : Start) → Read Bits64 w16 32768 s.args.words.p3
p3 s = word16 (p3-fits s) refl

pub overflow_mul-var1-2 : goal.overflow_mul-var1-2
overflow_mul-var1-2 c = let s = c.before.before.before.before.before in fit (times (times (difference s) (difference s) refl) (p3 s) refl)

pub overflow_mul-var1-3 : goal.overflow_mul-var1-3
overflow_mul-var1-3 c = let s = c.before.before.before.before.before in fit (times (difference s) (p2 s) refl)

pub overflow_mul-var1-4 : goal.overflow_mul-var1-4
overflow_mul-var1-4 c = let s = c.before.before.before.before.before in fit (up (times (difference s) (p2 s) refl) 12 refl)

pub overflow_add-var1 : goal.overflow_add-var1
overflow_add-var1 c = let s = c.before.before.before.before.before in fit (plus (down (times (times (difference s) (difference s) refl) (p3 s) refl) 8 refl) (up (times (difference s) (p2 s) refl) 12 refl) refl)

pub overflow_add-result : goal.overflow_add-result
overflow_add-result c =
    let s = c.before.before.before.before.before in
    let var1 = plus (down (times (times (difference s) (difference s) refl) (p3 s) refl) 8 refl) (up (times (difference s) (p2 s) refl) 12 refl) refl in
    fit (plus (up (literal 1 refl) 47 refl) var1 refl)

pub overflow_mul-result : goal.overflow_mul-result
overflow_mul-result c =
    let s = c.before.before.before.before.before in
    let var1 = plus (down (times (times (difference s) (difference s) refl) (p3 s) refl) 8 refl) (up (times (difference s) (p2 s) refl) 12 refl) refl in
    fit (times (plus (up (literal 1 refl) 47 refl) var1 refl) (p1 s) refl)

pub returns : goal.returns
unfolding scale_lines
returns c =
    let s = c.before.before.before.before.before in
    let var1 = plus (down (times (times (difference s) (difference s) refl) (p3 s) refl) 8 refl) (up (times (difference s) (p2 s) refl) 12 refl) refl in
    let whole = down (times (plus (up (literal 1 refl) 47 refl) (value var1) refl) (p1 s) refl) 33 refl in
    within {e = scale_lines s.args.words s.args.difference} (onto var1 whole) 1073741824 refl refl
