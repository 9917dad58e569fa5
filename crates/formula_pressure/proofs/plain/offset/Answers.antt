-- `pressure::plain::offset` meets its contract: each step stays within its width, by the bounds of its operands.
use mathlib.Core.Path.{refl}
use mir.Syntax.{w16}
use Rattle.std.proofs.Common.{rules}
use Rattle.steps.specs.declared.Signed.TheVariants.{Bits64}
use Rattle.steps.specs.Work.{given}
use Rattle.formula_pressure.specs.Pressure.{offset_lines}
use Rattle.formula.specs.Plain.{Gives}
use Rattle.formula.proofs.Bounds.{fit, within, value, onto, Read, plainly, word16, up, times, plus}
use Rattle.formula_pressure.proofs.plain.offset.Goals as goal
use Rattle.formula_pressure.proofs.plain.offset.Goals.{Start}

var1 : (s : Start) → Gives Bits64 350000 (given s.args.difference) s.args.difference
var1 s = plainly s.requires refl

p4 : (s : Start) → Read Bits64 w16 32768 s.args.words.p4
p4 s = word16 (search rules) refl

p5 : (s : Start) → Read Bits64 w16 32768 s.args.words.p5
p5 s = word16 (search rules) refl

p6 : (s : Start) → Read Bits64 w16 32768 s.args.words.p6
p6 s = word16 (search rules) refl

pub overflow_mul-result-2 : goal.overflow_mul-result-2
overflow_mul-result-2 c = let s = c.before.before.before.before.before.before in fit (times (times (var1 s) (var1 s) refl) (p6 s) refl)

pub overflow_mul-result-3 : goal.overflow_mul-result-3
overflow_mul-result-3 c = let s = c.before.before.before.before.before.before in fit (times (var1 s) (p5 s) refl)

pub overflow_mul-result-4 : goal.overflow_mul-result-4
overflow_mul-result-4 c = let s = c.before.before.before.before.before.before in fit (up (times (var1 s) (p5 s) refl) 17 refl)

pub overflow_add-result : goal.overflow_add-result
overflow_add-result c = let s = c.before.before.before.before.before.before in fit (plus (times (times (var1 s) (var1 s) refl) (p6 s) refl) (up (times (var1 s) (p5 s) refl) 17 refl) refl)

pub overflow_add-result-2 : goal.overflow_add-result-2
overflow_add-result-2 c =
    let s = c.before.before.before.before.before.before in
    let b = plus (times (times (var1 s) (var1 s) refl) (p6 s) refl) (up (times (var1 s) (p5 s) refl) 17 refl) refl in
    fit (plus b (up (p4 s) 35 refl) refl)

pub returns : goal.returns
unfolding offset_lines
returns c =
    let s = c.before.before.before.before.before.before in
    let a = times (times (var1 s) (var1 s) refl) (p6 s) refl in
    let b = plus (value a) (up (times (var1 s) (p5 s) refl) 17 refl) refl in
    within {e = offset_lines s.args.words s.args.difference} (onto a (onto b (plus (value b) (up (p4 s) 35 refl) refl))) 6700000000000000 refl refl
