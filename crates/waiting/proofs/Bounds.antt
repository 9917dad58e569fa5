-- How large a code, its samples and the figures can be.
use Prim.Native.Nat.{ℕ, ◌*◌, ◌≤◌}
use native.Mathlib.Nat.{mul-le-mul}
use native.Mathlib.Omega.{arith}
use mathlib.Core.Bool.{Bool, false, not, ◌&&◌}
use mathlib.Core.Path.{◌≡◌, refl, sym, ◌∙◌}
use lib.Dec.{leb}
use borrow.Author.Tests.{leb-true, not-false}
use Rattle.laws.specs.Tests.{both}
use Rattle.paper.specs.Registers as reg
use Rattle.waiting.specs.declared.Estimate.{Estimate}
use Rattle.waiting.specs.declared.Estimate.TheVariants.{Maximum, Typical}
use Rattle.waiting.specs.Waiting.{samples, figures}
use Rattle.waiting.proofs.EveryCode.{at_code}

-- what a test of three codes, called with result r, has shown
pub codes : (t p h : ℕ) {r : Bool} → r ≡ reg.are_codes t p h → not r ≡ false → (t ≤ reg.last_code) × (p ≤ reg.last_code) × (h ≤ reg.last_code)
codes t p h {r} e n =
    let (a, rest) = both (reg.is_code t) (reg.is_code p && reg.is_code h) (sym e ∙ not-false r n) in
    let (b, d) = both (reg.is_code p) (reg.is_code h) rest in
    (leb-true t reg.last_code a, leb-true p reg.last_code b, leb-true h reg.last_code d)

most-samples : (code : ℕ) → code ≤ reg.last_code → samples code ≤ 16
unfolding samples
most-samples code h = leb-true (samples code) 16 (at_code (λ k. leb (samples k) 16) refl code h)

pub most-product : (code sample n : ℕ) → n ≡ samples code → code ≤ reg.last_code → sample ≤ 10000 → n * sample ≤ 160000
most-product code sample n e c h = let g : n ≤ 16 = rw e (most-samples code c) in omega (arith, mul-le-mul g h)

pub most-figures : (estimate : Estimate) → ((figures estimate).base ≤ 10000) × ((figures estimate).sample ≤ 10000) × ((figures estimate).extra ≤ 10000)
most-figures Maximum = (omega arith, omega arith, omega arith)
most-figures Typical = (omega arith, omega arith, omega arith)
