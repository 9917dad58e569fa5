-- `temperature::plain::fine` meets its contract: near T1 each step stays within its width, by the bounds of its operands.
use Prim.Native.Nat.{◌/◌, ◌≤◌}
use native.Mathlib.Omega.{arith}
use mathlib.Core.Path.{refl}
use lib.IntN.{pos, ◌-ℤ◌, ◌*ℤ◌}
use mir.Syntax.{w16}
use mir.Val.{SFits}
use Rattle.std.proofs.Common.{rules}
use Rattle.steps.specs.declared.Signed.TheVariants.{Bits32}
use Rattle.steps.specs.Work.{num, ◌-ʷ◌, ◌<<◌, ◌>>◌}
use Rattle.formula_temperature.specs.Temperature.{slope_line, curve_line, fine_lines}
use Rattle.formula.specs.Plain.{Gives}
use Rattle.formula.proofs.Bounds.{local, fit, back, within, value, onto, Read, natural, floored, word16, up, down, times, plus, minus-within}
use Rattle.formula_temperature.proofs.Ranges.{twice-near}
use Rattle.formula_temperature.proofs.plain.fine.Goals as goal
use Rattle.formula_temperature.proofs.plain.fine.Goals.{Start}

t2-fits : (c : Start) → SFits w16 c.args.words.t2
t2-fits c = search rules

t3-fits : (c : Start) → SFits w16 c.args.words.t3
t3-fits c = search rules

t1 : (c : Start) → Gives Bits32 65535 (num c.args.words.t1) (pos c.args.words.t1)
t1 c = let h : c.args.words.t1 ≤ 65535 = search rules in natural c.args.words.t1 h refl

t2 : (c : Start) → Read Bits32 w16 32768 c.args.words.t2
t2 c = word16 (t2-fits c) refl

t3 : (c : Start) → Read Bits32 w16 32768 c.args.words.t3
t3 c = word16 (t3-fits c) refl

sixteenth : (c : Start) → Gives Bits32 268435455 (num c.args.count >> 4) (pos (c.args.count / 16))
sixteenth c = floored c.args.count 4 (omega arith) refl

eighth : (c : Start) → Gives Bits32 536870911 (num c.args.count >> 3) (pos (c.args.count / 8))
eighth c = floored c.args.count 3 (omega arith) refl

difference : (c : Start) → Gives Bits32 16383 ((num c.args.count >> 4) -ʷ num c.args.words.t1) (local (pos (c.args.count / 16)) -ℤ local (pos c.args.words.t1))
difference c = minus-within (sixteenth c) (t1 c) 16383 c.requires.size refl

steep : (c : Start) → Gives Bits32 32767 ((num c.args.count >> 3) -ʷ (num c.args.words.t1 << 1)) (local (pos (c.args.count / 8)) -ℤ local (local (pos c.args.words.t1) *ℤ pos 2))
steep c =
    minus-within (eighth c) (up (t1 c) 1 refl) 32767
    (rw (back (t1 c)) (twice-near c.args.count c.args.words.t1 c.requires.size))
    refl

pub overflow_mul-var2-2 : goal.overflow_mul-var2-2
overflow_mul-var2-2 c =
    let s = c.before.before.before.before.before in
    fit (times (down (times (difference s) (difference s) refl) 12 refl) (t3 s) refl)

pub overflow_add-result : goal.overflow_add-result
overflow_add-result c =
    let s = c.before.before.before.before.before in
    let var1 = down (times (steep s) (t2 s) refl) 11 refl in
    let var2 = down (times (down (times (difference s) (difference s) refl) 12 refl) (t3 s) refl) 14 refl in
    fit (plus var1 var2 refl)

pub returns : goal.returns
unfolding slope_line curve_line fine_lines
returns c =
    let s = c.before.before.before.before.before in
    let var1 = down (times (steep s) (t2 s) refl) 11 refl in
    let var2 = down (times (down (times (difference s) (difference s) refl) 12 refl) (t3 s) refl) 14 refl in
    within {e = fine_lines s.args.words s.args.count} (onto var1 (onto var2 (plus (value var1) (value var2) refl))) 1179648 refl refl
