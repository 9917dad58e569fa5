-- `pressure::plain::pressure` meets its contract: the functions give the formula's lines one after the other; where their guard does not hold the road ends.
-- the quotient's line goes on from its dividend
-- ---- each line's number, as the next goes on from it
use Prim.Native.Nat.{ℕ, ◌≤◌}
use mathlib.Core.Path.{◌≡◌, refl, sym, ◌∙◌}
use mathlib.Core.Bool.{true}
use native.Mathlib.Omega.{arith}
use lib.IntN.{ℤ, pos, nat_abs, ◌-ℤ◌}
use mir.Syntax.{w32, w64}
use mir.Val.{SFits, to_z, of_z}
use mir.Facts.{to_z-of_z}
use Rattle.std.proofs.Common.{rules}
use Rattle.steps.specs.declared.Signed.TheVariants.{Bits64}
use Rattle.std.specs.Prelude.{Ok, Err}
use Rattle.std.specs.Result.{result_ok}
use Rattle.steps.specs.Step.{Num, on_value, on_values}
use Rattle.steps.specs.Work.{run}
use Rattle.formula_pressure.specs.Pressure.{difference_line, offset_lines, scale_lines, divisor_lines, quotient_lines, refined_lines, pressure_lines, pressure_formula, pressure_of}
use Rattle.paper.specs.Numbers as no
use Rattle.steps.specs.Step.{is_nonzero}
use Rattle.formula.specs.Answers.{ChannelAnswer}
use Rattle.formula.specs.Plain.{Gives, channel_plainly}
use Rattle.formula_pressure.specs.Plain.{Dividing, dividend_line, division_line, divides}
use Rattle.formula.proofs.Bounds.{local, back, onto, passing, word, literal, minus-within, far-is}
use Rattle.formula_pressure.proofs.Ranges.{dividing-is}
use Rattle.formula_pressure.proofs.plain.pressure.Goals as goal
use Rattle.formula_pressure.proofs.plain.pressure.Goals.{After-dividend-above, After-divisor-var1, After-in_range, After-is_dividing, After-offset-var2, After-quotient, After-refine, Start, Then-is_dividing}

on-given : (x : ℤ) (f : ℤ → Num) → on_value (Ok x) f ≡ f x
unfolding on_value
on-given x f = refl

onward : (a : Num) (f g : ℤ → Num) → on_value (on_value a f) g ≡ on_value a (λ x. on_value (f x) g)
unfolding on_value
onward (Ok x) f g = refl
onward (Err m) f g = refl

parted : (count : ℕ) (var2 var1 : ℤ) → run Bits64 (quotient_lines count var2 var1) ≡ on_value (run Bits64 (dividend_line count var2)) (λ x. run Bits64 (division_line x var1))
unfolding run on_values quotient_lines dividend_line division_line
parted count var2 var1 = simp (on-given, onward)

divided : {m n : ℕ} {q : ℤ} (count : ℕ) (var2 var1 x : ℤ) → Gives Bits64 m (dividend_line count var2) x → Gives Bits64 n (division_line x var1) q → Gives Bits64 n (quotient_lines count var2 var1) q
divided count var2 var1 x a b =
    record { is = parted count var2 var1 ∙ (rw a.is (on-given x (λ x. run Bits64 (division_line x var1)) ∙ b.is)); size = b.size; room = b.room }

difference : (c : Start) → Gives Bits64 350000 (difference_line c.args.fine) (local (to_z w32 (of_z w32 c.args.fine)) -ℤ pos 128000)
unfolding difference_line
difference c =
    minus-within (word {v = w32} c.ranges.fine c.requires.usual.size refl) (literal 128000 refl) 350000
    (rw (to_z-of_z c.ranges.fine) c.requires.usual.pressure)
    refl

near : (c : Start) → nat_abs (local (local (to_z w32 (of_z w32 c.args.fine)) -ℤ pos 128000)) ≤ 350000
near c = rw (back (difference c)) (difference c).size

offset-is : (c : After-offset-var2) → Gives Bits64 6700000000000000 (offset_lines c.args.words (local (to_z w32 (of_z w32 c.args.fine)) -ℤ pos 128000)) c.offset-var2.result
offset-is c = rw (back (difference c.before)) at c.offset-var2.ensures

dividend-is : (c : After-dividend-above) → Gives Bits64 11300000000000000 (dividend_line c.args.count c.offset-var2.result) c.dividend-above.result
dividend-is c = rw (back (offset-is c.before.before)) at c.dividend-above.ensures

scale-is :
    (c : After-divisor-var1) →
    Gives Bits64 1073741824 (scale_lines c.args.words (local (to_z w32 (of_z w32 c.args.fine)) -ℤ pos 128000)) c.divisor-var1.result
scale-is c = rw (back (difference c.before.before)) at c.divisor-var1.ensures

divisor-back : (c : After-divisor-var1) → local c.divisor-var1.result ≡ c.divisor-var1.result
divisor-back c = back (scale-is c)

dividing : (c : Then-is_dividing) → Dividing (local c.dividend-above.result) (local c.divisor-var1.result)
dividing c =
    let f : SFits w64 c.divisor-var1.result = search rules in
    dividing-is _ _ (rw (to_z-of_z f) f) (sym c.is_dividing.ensures ∙ c.if-is_dividing.true)

divisor-is :
    (c : Then-is_dividing) →
    Gives Bits64 1073741824
    (divisor_lines c.args.words (local (to_z w32 (of_z w32 c.args.fine)) -ℤ pos 128000))
    c.divisor-var1.result
unfolding divisor_lines
divisor-is c =
    let far : 134217728 ≤ nat_abs c.divisor-var1.result = rw (divisor-back c.before.before.before) at (dividing c).divisor in
    passing (scale-is c.before.before.before) is_nonzero no.divisor_zero (far-is c.divisor-var1.result (omega arith) far)

pub quotient-requires : goal.quotient-requires
quotient-requires c = dividing c

quotient_is :
    (c : After-quotient) →
    Gives Bits64 68719476736 (division_line c.dividend-above.result c.divisor-var1.result) c.quotient.result
quotient_is c =
    rw (back (dividend-is c.before.before.before), divisor-back c.before.before.before.before) at c.quotient.ensures

refine-is : (c : After-refine) → Gives Bits64 4294967296 (refined_lines c.args.words c.quotient.result) c.refine.result
refine-is c = rw (back (quotient_is c.before)) at c.refine.ensures

lines :
    (c : After-refine) →
    Gives Bits64 4294967296
    (pressure_lines
    c.args.words
    c.args.fine
    c.args.count)
    c.refine.result
unfolding pressure_lines
lines c =
    let whole = divided c.args.count c.offset-var2.result c.divisor-var1.result c.dividend-above.result (dividend-is c.before.before.before.before) (quotient_is c.before) in
    onto (difference c.before.before.before.before.before.before.before) (onto (offset-is c.before.before.before.before.before.before) (onto (divisor-is c.before.before) (onto whole (refine-is c))))

fine_back : (c : Start) → local (to_z w32 (of_z w32 c.args.fine)) ≡ c.args.fine
fine_back c = back (word {w = Bits64} {v = w32} c.ranges.fine c.requires.usual.size refl) ∙ to_z-of_z c.ranges.fine

divides-is :
    (c : After-is_dividing) →
    divides c.args.words c.args.fine c.args.count
    ≡ c.is_dividing.result
unfolding divides
divides-is c =
    let above = onto (offset-is c.before.before.before) {f = λ var2. dividend_line c.args.count var2} (dividend-is c.before) in
    let below = scale-is c.before.before in
    rw (rw (fine_back c.before.before.before.before) at above.is, rw (fine_back c.before.before.before.before) at below.is, c.is_dividing.ensures, back above, back below)

in-range-is :
    (c : After-in_range) →
    c.in_range.result
    ≡ pressure_of
    c.args.words
    c.args.fine
    c.args.count
unfolding run on_value pressure_formula pressure_of
in-range-is c = let p = lines c.before in rw p.is (rw (back p) at c.in_range.ensures)

value-of : (a : ChannelAnswer) → result_ok a ≡ channel_plainly true a
unfolding channel_plainly
value-of (Ok value) = refl
value-of (Err m) = refl

pub returns-then-is_dividing : goal.returns-then-is_dividing
returns-then-is_dividing c =
    rw (c.ok.ensures.value, divides-is c.before.before.before.before.before, c.if-is_dividing.true, in-range-is c.before)
    (value-of (pressure_of c.args.words c.args.fine c.args.count))

pub returns : goal.returns
unfolding channel_plainly
returns c = rw (divides-is c.before, c.if-is_dividing.false)
