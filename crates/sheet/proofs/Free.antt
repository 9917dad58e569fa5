-- K5, K6 and K7 of the bench sheet: at the fine temperature 76800 the words H3, H5 and H6 play no part.
use Prim.Native.Nat.{ℕ}
use mathlib.Core.Path.{◌≡◌}
use native.Mathlib.Nat.{zero-mul}
use lib.IntN.{ℤ, pos, zero-*ℤ, *ℤ-zero}
use Rattle.std.specs.Prelude.{Ok}
use Rattle.steps.specs.Step.{on_value, on_values}
use Rattle.steps.specs.Work.{run}
use Rattle.calibration.specs.declared.HumidityWords.{HumidityWords}
use Rattle.formula_humidity.specs.Humidity as h

abbrev pub k5_words : ℤ → ℕ → ℤ → ℤ → HumidityWords
k5_words h4 h3 h5 h6 = record { h1 = 75; h2 = pos 362; h3 = h3; h4 = h4; h5 = h5; h6 = h6 }

pub k5 : (h3 : ℕ) (h5 h6 : ℤ) → h.humidity_of (k5_words (pos 0) h3 h5 h6) (pos 76800) 8192 ≡ Ok 46036
unfolding run on_value on_values h.difference_line h.level_factor h.bend_factor h.gain_factor h.product_line h.correction_line h.humidity_lines h.last_line h.humidity_formula h.humidity_of
k5 h3 h5 h6 = rw (*ℤ-zero h5, zero-*ℤ h6, zero-mul h3)

pub k6 : (h3 : ℕ) (h5 h6 : ℤ) → h.humidity_of (k5_words (pos 0) h3 h5 h6) (pos 76800) 32768 ≡ Ok 102400
unfolding run on_value on_values h.difference_line h.level_factor h.bend_factor h.gain_factor h.product_line h.correction_line h.humidity_lines h.last_line h.humidity_formula h.humidity_of
k6 h3 h5 h6 = rw (*ℤ-zero h5, zero-*ℤ h6, zero-mul h3)

pub k7 : (h3 : ℕ) (h5 h6 : ℤ) → h.humidity_of (k5_words (pos 1) h3 h5 h6) (pos 76800) 0 ≡ Ok 0
unfolding run on_value on_values h.difference_line h.level_factor h.bend_factor h.gain_factor h.product_line h.correction_line h.humidity_lines h.last_line h.humidity_formula h.humidity_of
k7 h3 h5 h6 = rw (*ℤ-zero h5, zero-*ℤ h6, zero-mul h3)
