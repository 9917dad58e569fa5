-- Each row's figures are tied by computation.
use mathlib.Core.Path.{refl}
use native.Mathlib.Omega.{arith}
use Rattle.kinds.specs.declared.Kind.{Kind}
use Rattle.kinds.specs.declared.Kind.TheVariants.{Bme280, Bmp280}
use Rattle.kinds.specs.Figures.{Figures}

pub figures : (kind : Kind) → Figures kind
figures Bme280 = record { ends_at = refl; some = omega arith; at_most = omega arith; places = refl }
figures Bmp280 = record { ends_at = refl; some = omega arith; at_most = omega arith; places = refl }
