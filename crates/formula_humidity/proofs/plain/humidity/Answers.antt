-- `humidity::plain::humidity` meets its contract: the functions give the formula's lines one after the other; where the product is not small the road ends.
-- ---- each line's number, as the next goes on from it
-- the guard's test is the definition's
use Prim.Native.Nat.{◌≤◌}
use mathlib.Core.Path.{◌≡◌, refl, sym, ◌∙◌}
use lib.IntN.{pos, nat_abs, ◌-ℤ◌, ◌*ℤ◌}
use mir.Syntax.{w32}
use mir.Val.{to_z, of_z}
use mir.Facts.{to_z-of_z}
use Rattle.std.specs.Prelude.{Ok}
use Rattle.steps.specs.declared.Signed.TheVariants.{Bits32}
use Rattle.steps.specs.Step.{on_value}
use Rattle.steps.specs.Work.{run}
use Rattle.formula_humidity.specs.Humidity.{difference_line, level_factor, gain_factor, product_line, humidity_lines, humidity_formula, humidity_of}
use Rattle.formula.specs.Plain.{Gives, channel_plainly}
use Rattle.formula_humidity.specs.Plain.{Small, multiplies}
use Rattle.formula.proofs.Bounds.{local, fit, back, onto, wider, word, literal, times, times-within, minus-within}
use Rattle.formula_humidity.proofs.Ranges.{small_is}
use Rattle.formula_humidity.proofs.plain.humidity.Goals as goal
use Rattle.formula_humidity.proofs.plain.humidity.Goals.{After-correct, After-gain, After-is_small, After-last, After-level, Start, Then-is_small}

difference : (c : Start) → Gives Bits32 401200 (difference_line c.args.fine) (local (to_z w32 (of_z w32 c.args.fine)) -ℤ pos 76800)
unfolding difference_line
difference c =
    minus-within (word {v = w32} c.ranges.fine c.requires.usual.size refl) (literal 76800 refl) 401200
    (rw (to_z-of_z c.ranges.fine) c.requires.usual.humidity)
    refl

near : (c : Start) → nat_abs (local (local (to_z w32 (of_z w32 c.args.fine)) -ℤ pos 76800)) ≤ 401200
near c = rw (back (difference c)) (difference c).size

level-is :
    (c : After-level) →
    Gives Bits32 55421 (level_factor c.args.words c.args.count (local (to_z w32 (of_z w32 c.args.fine)) -ℤ pos 76800)) c.level.result
level-is c = rw (back (difference c.before)) at c.level.ensures

gain-is : (c : After-gain) → Gives Bits32 128842 (gain_factor c.args.words (local (to_z w32 (of_z w32 c.args.fine)) -ℤ pos 76800)) c.gain.result
gain-is c = rw (back (difference c.before.before)) at c.gain.ensures

pub overflow_mul-product : goal.overflow_mul-product
overflow_mul-product c = fit (times (wider (level-is c.before)) (wider (gain-is c)) refl)

small : (c : Then-is_small) → Small (local (local c.level.result *ℤ local c.gain.result))
small c = small_is _ (sym c.is_small.ensures ∙ c.if-is_small.true)

pub correct-requires : goal.correct-requires
correct-requires c = small c

product_is :
    (c : Then-is_small) →
    Gives Bits32 1000000000
    (product_line
    c.args.words
    c.args.count
    (local (to_z w32 (of_z w32 c.args.fine)) -ℤ pos 76800))
    (local c.level.result *ℤ local c.gain.result)
unfolding product_line
product_is c =
    let l = level-is c.before.before.before in
    let h = gain-is c.before.before in
    times-within l h 1000000000 (rw (back (times (wider l) (wider h) refl), back l, back h) at (small c).size) refl

lines :
    (c : After-correct) →
    Gives Bits32 2147483647
    (humidity_lines
    c.args.words
    c.args.fine
    c.args.count)
    c.correct.result
unfolding humidity_lines
lines c =
    let p = product_is c.before in
    onto (difference c.before.before.before.before.before) (onto p (rw (back p) at c.correct.ensures))

fine_back : (c : Start) → local (to_z w32 (of_z w32 c.args.fine)) ≡ c.args.fine
fine_back c = back (word {w = Bits32} {v = w32} c.ranges.fine c.requires.usual.size refl) ∙ to_z-of_z c.ranges.fine

multiplies-is :
    (c : After-is_small) →
    multiplies c.args.words c.args.fine c.args.count ≡ c.is_small.result
unfolding multiplies
multiplies-is c =
    let l = level-is c.before.before in
    let h = gain-is c.before in
    rw (rw (fine_back c.before.before.before) at l.is, rw (fine_back c.before.before.before) at h.is, c.is_small.ensures, back (times (wider l) (wider h) refl), back l, back h)

last-is : (c : After-last) → humidity_of c.args.words c.args.fine c.args.count ≡ Ok c.last.result
unfolding run on_value humidity_formula humidity_of
last-is c = let v = lines c.before in rw v.is (rw (back v) at c.last.ensures)

pub returns-then-is_small : goal.returns-then-is_small
unfolding channel_plainly
returns-then-is_small c = rw (multiplies-is c.before.before.before, c.if-is_small.true, last-is c)

pub returns : goal.returns
unfolding channel_plainly
returns c = rw (multiplies-is c.before, c.if-is_small.false)
