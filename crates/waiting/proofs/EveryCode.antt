-- What holds at every code: a test that is computed at each of them, and the law that turns it into the fact at one.
use Prim.Native.Nat.{ℕ, zero, suc, ◌<◌, ◌≤◌}
use native.Mathlib.Omega.{arith}
use mathlib.Core.Bool.{Bool, true, ◌&&◌}
use mathlib.Core.Path.{◌≡◌}
use Rattle.laws.specs.Tests.{both}
use Rattle.paper.specs.Registers as reg

-- the test holds at each number below n
abbrev every_below : ℕ → (ℕ → Bool) → Bool
every_below zero test = true
every_below (suc n) test = test 0 && every_below n (λ k. test (suc k))

below : (n : ℕ) (test : ℕ → Bool) → every_below n test ≡ true → (k : ℕ) → k < n → test k ≡ true
below zero test e k h = absurd (omega arith)
below (suc n) test e zero h = (both (test 0) (every_below n (λ k. test (suc k))) e).0
below (suc n) test e (suc k) h = below n (λ k. test (suc k)) (both (test 0) (every_below n (λ k. test (suc k))) e).1 k (omega arith)

abbrev pub EveryCode : (ℕ → Bool) → Type 0
EveryCode test = every_below (suc reg.last_code) test ≡ true

pub at_code : (test : ℕ → Bool) → EveryCode test → (code : ℕ) → code ≤ reg.last_code → test code ≡ true
at_code test e code h = below (suc reg.last_code) test e code (omega arith)
