-- Why each channel's place holds what Missing.antt states: of the definitions first, and then of what the public call answers.
use Prim.Native.Nat.{ℕ}
use mathlib.Core.Path.{◌≡◌, refl, subst}
use mathlib.Core.Bool.{Bool, true, false, cond}
use mathlib.Core.List.{List}
use native.Mathlib.Omega.{arith}
use lib.Dec.{eqb}
use lib.ListN.{length}
use borrow.Author.Tests.{ne_eqb}
use Rattle.std.specs.Prelude.{Ok, Err}
use Rattle.paper.specs.Numbers as no
use Rattle.paper.specs.Registers as reg
use Rattle.paper.specs.declared.Refusal.{Refusal}
use Rattle.paper.specs.Answers.{refusal}
use Rattle.calibration.specs.declared.Words.{Words}
use Rattle.calibration.specs.Calibration.{Calibration, calibrated}
use Rattle.data.specs.Counts.{counts_of}
use Rattle.compensation.specs.declared.Reading.{Reading}
use Rattle.compensation.specs.Compensation.{reading, compensated_words, compensated_with, compensated}
use Rattle.compensation.specs.Missing as missing

pub of-readings : missing.OfReadings
of-readings words counts t p h = record {
  skipped-temperature = λ e. rw e;
  skipped-pressure = λ e. rw e;
  skipped-humidity = λ e. rw e;
  enabled-temperature = λ on. rw (ne_eqb t 0 on);
  enabled-pressure = λ known on. rw (ne_eqb p 0 on, known);
  enabled-humidity = λ known on. rw (ne_eqb h 0 on, known);
  pressure-without = λ without on. rw (ne_eqb p 0 on, without);
  humidity-without = λ without on. rw (ne_eqb h 0 on, without);
}

pub answered : missing.Answered
unfolding compensated compensated_words
answered one two bytes t p h words known eight codes = rw (known, eight, codes)

never : {n : Refusal} {r : Reading} → Err n ≡ Ok r → ⊥
never e = let z : ◌≡◌ {A = ℕ} 0 1 = cc in omega arith

module _ (words : Words) (bytes : List ℕ) (t p h : ℕ) (r : Reading) where
  by_codes : (b : Bool) → cond b (Ok (reading words (counts_of bytes) t p h)) (Err (refusal no.out_of_range)) ≡ Ok r → reading words (counts_of bytes) t p h ≡ r
  by_codes true e = cc
  by_codes false e = absurd (never e)

  by_length : (b : Bool) → cond b (compensated_words words bytes t p h) (Err (refusal no.wrong_length)) ≡ Ok r → reading words (counts_of bytes) t p h ≡ r
  unfolding compensated_words
  by_length true e = by_codes (reg.are_codes t p h) e
  by_length false e = absurd (never e)

pub of-answers : missing.OfAnswers
unfolding compensated
of-answers one two bytes t p h r = go (calibrated one two) refl
  where
    go : (k : Calibration) → calibrated one two ≡ k → compensated_with k bytes t p h ≡ Ok r → missing.OfAnswer one two bytes t p h r
    go (Ok words) is e = record {
      words = words;
      known = is;
      channels =
          subst (λ (x : Reading). missing.Channels words (counts_of bytes) t p h x)
          (by_length words bytes t p h r (eqb (length bytes) reg.data_length) e)
          (of-readings words (counts_of bytes) t p h);
    }
    go (Err n) is e = absurd (never e)

pub stored-by-skipped : missing.StoredBySkipped
stored-by-skipped = refl

pub enabled-at-80000 : missing.EnabledAt80000
enabled-at-80000 words t p h on = (of-readings words (counts_of reg.fresh_bytes) t p h).enabled-temperature on
