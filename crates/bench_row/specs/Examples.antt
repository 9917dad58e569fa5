-- Forms filled, by the definitions.
use Rattle.std.specs.Prelude.{[], ◌∷◌, ◌≡◌, refl, pos, negsuc}
use Rattle.bench_page.specs.Page.{letters}
use Rattle.bench_page.specs.Digits as spelt
use Rattle.bench_row.specs.Row.{filled_from, filled, filled_signed, buffer}

pub polled : filled (letters "# place=# polls=#") (0 ∷ 2 ∷ 3 ∷ []) ≡ letters "0 place=2 polls=3"
unfolding filled_from spelt.decimal spelt.spelled
polled = refl

pub addressed : filled (letters "# addr=@ n=#") (0 ∷ 0x76 ∷ 12 ∷ []) ≡ letters "0 addr=76 n=12"
unfolding filled_from spelt.decimal spelt.spelled spelt.pair spelt.hex_digit
addressed = refl

pub below-zero : filled_signed (letters "# t=# fine=#") (pos 0 ∷ negsuc 99 ∷ pos 128422 ∷ []) ≡ letters "0 t=-100 fine=128422"
unfolding filled_from spelt.signed spelt.decimal spelt.spelled
below-zero = refl

pub lent : buffer (0xEC ∷ 0xF4 ∷ 0x27 ∷ []) ≡ letters " buf=ECF427"
unfolding buffer spelt.shown spelt.pairs spelt.pair spelt.hex_digit
lent = refl
