-- `pressure::plain::refine` meets its contract: each step stays within its width, by the bounds of its operands.
use mathlib.Core.Path.{refl}
use mir.Syntax.{w16}
use Rattle.std.proofs.Common.{rules}
use Rattle.steps.specs.declared.Signed.TheVariants.{Bits64}
use Rattle.steps.specs.Work.{given}
use Rattle.formula_pressure.specs.Pressure.{curve_line, slope_line, last_line, refined_lines}
use Rattle.formula.specs.Plain.{Gives}
use Rattle.formula.proofs.Bounds.{fit, within, value, onto, Read, plainly, word16, up, down, times, plus}
use Rattle.formula_pressure.proofs.plain.refine.Goals as goal
use Rattle.formula_pressure.proofs.plain.refine.Goals.{Start}

p : (s : Start) → Gives Bits64 68719476736 (given s.args.p) s.args.p
p s = plainly s.requires refl

p7 : (s : Start) → Read Bits64 w16 32768 s.args.words.p7
p7 s = word16 (search rules) refl

p8 : (s : Start) → Read Bits64 w16 32768 s.args.words.p8
p8 s = word16 (search rules) refl

p9 : (s : Start) → Read Bits64 w16 32768 s.args.words.p9
p9 s = word16 (search rules) refl

pub overflow_mul-var1 : goal.overflow_mul-var1
overflow_mul-var1 c = let s = c.before.before.before.before.before.before in fit (times (p9 s) (down (p s) 13 refl) refl)

pub overflow_mul-var1-2 : goal.overflow_mul-var1-2
overflow_mul-var1-2 c = let s = c.before.before.before.before.before.before in fit (times (times (p9 s) (down (p s) 13 refl) refl) (down (p s) 13 refl) refl)

pub overflow_mul-var2 : goal.overflow_mul-var2
overflow_mul-var2 c = let s = c.before.before.before.before.before.before in fit (times (p8 s) (p s) refl)

pub overflow_add-result : goal.overflow_add-result
overflow_add-result c =
    let s = c.before.before.before.before.before.before in
    let var1 = down (times (times (p9 s) (down (p s) 13 refl) refl) (down (p s) 13 refl) refl) 25 refl in
    fit (plus (p s) var1 refl)

pub overflow_add-result-2 : goal.overflow_add-result-2
overflow_add-result-2 c =
    let s = c.before.before.before.before.before.before in
    let var1 = down (times (times (p9 s) (down (p s) 13 refl) refl) (down (p s) 13 refl) refl) 25 refl in
    let var2 = down (times (p8 s) (p s) refl) 19 refl in
    fit (plus (plus (p s) var1 refl) var2 refl)

pub overflow_add-result-3 : goal.overflow_add-result-3
overflow_add-result-3 c =
    let s = c.before.before.before.before.before.before in
    let var1 = down (times (times (p9 s) (down (p s) 13 refl) refl) (down (p s) 13 refl) refl) 25 refl in
    let var2 = down (times (p8 s) (p s) refl) 19 refl in
    fit (plus (down (plus (plus (p s) var1 refl) var2 refl) 8 refl) (up (p7 s) 4 refl) refl)

pub returns : goal.returns
unfolding curve_line slope_line last_line refined_lines
returns c =
    let s = c.before.before.before.before.before.before in
    let var1 = down (times (times (p9 s) (down (p s) 13 refl) refl) (down (p s) 13 refl) refl) 25 refl in
    let var2 = down (times (p8 s) (p s) refl) 19 refl in
    let last = plus (down (plus (plus (p s) (value var1) refl) (value var2) refl) 8 refl) (up (p7 s) 4 refl) refl in
    within {e = refined_lines s.args.words s.args.p} (onto var1 (onto var2 last)) 4294967296 refl refl
