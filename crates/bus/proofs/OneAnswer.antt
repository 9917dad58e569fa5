-- Two answers that a promise allows are equal: the paper's number and values leave only one.
use Prim.Native.Nat.{ℕ}
use native.Mathlib.Omega.{arith}
use mathlib.Core.List.{[], ◌∷◌, ◌++◌}
use mathlib.Core.Path.{◌≡◌, refl, sym, ap}
use Rattle.paper.proofs.Answers.{same_number, same-values}
use Rattle.bus.specs.declared.Device.{Device}
use Rattle.bus.specs.declared.Device.TheVariants.{At, Selected}
use Rattle.bus.specs.declared.Decoded.{Decoded}
use Rattle.paper.specs.declared.Refusal.{Refusal}
use Rattle.std.specs.Prelude.{Result, Ok, Err}
use Rattle.paper.specs.Answers.{refusal}
use Rattle.bus.specs.Devices.{addresses}
use Rattle.bus.specs.Writing.{encoded_answer, decoded_answer}

-- addresses tell devices apart
pub one-device : (device other : Device) (n m : ℕ) → (addresses device ++ n ∷ []) ≡ (addresses other ++ m ∷ []) → (device ≡ other) × (n ≡ m)
one-device (At a) (At b) n m e = (cc, cc)
one-device (At a) Selected n m e = let z : ◌≡◌ {A = ℕ} 0 1 = cc in absurd (omega arith)
one-device Selected (At b) n m e = let z : ◌≡◌ {A = ℕ} 0 1 = cc in absurd (omega arith)
one-device Selected Selected n m e = (refl, cc)

-- and a device with a number are values, so they are no refusal's
none : (device : Device) (n : ℕ) → (addresses device ++ n ∷ []) ≡ [] → ⊥
none (At a) n e = cc
none Selected n e = cc

abbrev decoded : Device → ℕ → Decoded
decoded device bytes = record { device = device; bytes = bytes }

pub one-encoded : (a b : Result ℕ Refusal) → encoded_answer a ≡ encoded_answer b → a ≡ b
one-encoded (Ok m) (Ok n) e = cc (same-values e)
one-encoded (Ok m) (Err why) e = cc (same-values e)
one-encoded (Err why) (Ok n) e = cc (same-values e)
one-encoded (Err why) (Err other) e = ap (λ number. Err (refusal number)) (same_number e)

pub one-decoded : (a b : Result Decoded Refusal) → decoded_answer a ≡ decoded_answer b → a ≡ b
one-decoded (Ok x) (Ok y) e =
    let (same, long) = one-device x.device y.device x.bytes y.bytes (same-values e) in
    let d : decoded x.device x.bytes ≡ decoded y.device y.bytes = cc in
    ap Ok d
one-decoded (Ok x) (Err why) e = absurd (none x.device x.bytes (same-values e))
one-decoded (Err why) (Ok y) e = absurd (none y.device y.bytes (sym (same-values e)))
one-decoded (Err why) (Err other) e = ap (λ number. Err (refusal number)) (same_number e)
