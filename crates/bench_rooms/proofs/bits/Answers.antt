-- A double that is no number has the one pattern.
use lib.Ieee.{Float, nan, inf, fin, binary64, is_nan, to_bits}
use mathlib.Core.Bool.{true}
use mathlib.Core.Path.{◌≡◌, refl, sym, ◌∙◌}
use Rattle.bench_rooms.proofs.bits.Goals as goal

none : (x : Float) → is_nan x ≡ true → 0x7FF8000000000000 ≡ to_bits binary64 x
unfolding is_nan to_bits
none nan e = refl
none (inf s) e = absurd (cc)
none (fin s m x) e = absurd (cc)

pub returns-then-is_nan : goal.returns-then-is_nan
returns-then-is_nan c = none c.args.x (sym c.is_nan.ensures.value ∙ c.if-is_nan.true)
