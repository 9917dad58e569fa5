-- Numbers written, by the definitions.
use Rattle.std.specs.Prelude.{[], ◌∷◌, ◌≡◌, refl, negsuc}
use Rattle.bench_page.specs.Page.{letters}
use Rattle.bench_page.specs.Digits as spelt

pub pressure : spelt.decimal 25767233 ≡ letters "25767233"
unfolding spelt.decimal spelt.spelled
pressure = refl

pub zero-written : spelt.decimal 0 ≡ letters "0"
unfolding spelt.decimal spelt.spelled
zero-written = refl

pub minus : spelt.signed (negsuc 999) ≡ letters "-1000"
unfolding spelt.signed spelt.decimal spelt.spelled
minus = refl

pub message : spelt.shown (0xEC ∷ 0xF4 ∷ 0x27 ∷ []) ≡ letters "ECF427"
unfolding spelt.shown spelt.pairs spelt.pair spelt.hex_digit
message = refl

pub none : spelt.shown [] ≡ letters "-"
unfolding spelt.shown
none = refl
