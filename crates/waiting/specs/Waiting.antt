-- Waiting: samples by code, and the microseconds that a conversion takes at most and typically.
use Rattle.std.specs.Prelude.{ℕ, ◌+◌, ◌*◌, eqb, cond, [], ◌∷◌, Result, Ok, Err}
use Rattle.paper.specs.Numbers as no
use Rattle.paper.specs.Registers as reg
use Rattle.paper.specs.declared.Refusal.{Refusal}
use Rattle.paper.specs.Answers.{Answer, given, refused}
use Rattle.waiting.specs.declared.Estimate.{Estimate}
use Rattle.waiting.specs.declared.Estimate.TheVariants.{Maximum, Typical}
use Rattle.waiting.specs.declared.Figures.{Figures}

-- codes 0 to 4 mean 0, 1, 2, 4, 8 samples; 5 to 7 mean 16
unfoldable pub samples : ℕ → ℕ
samples code =
    cond (eqb code 0) 0
    (cond (eqb code 1) 1
    (cond (eqb code 2) 2
    (cond (eqb code 3) 4
    (cond (eqb code 4) 8 16))))

-- the base, each sample, and what pressure or humidity takes more if it has any
abbrev pub maximum : Figures
maximum = record { base = 1250; sample = 2300; extra = 575 }

abbrev pub typical : Figures
typical = record { base = 1000; sample = 2000; extra = 500 }

abbrev pub figures : Estimate → Figures
figures Maximum = maximum
figures Typical = typical

-- a channel's part, and nothing for a skipped one
unfoldable pub channel_part : ℕ → ℕ → ℕ → ℕ
channel_part sample extra code = cond (eqb (samples code) 0) 0 (samples code * sample + extra)

-- temperature has nothing extra
unfoldable pub microseconds : Figures → ℕ → ℕ → ℕ → ℕ
microseconds f temperature pressure humidity =
    f.base
    + channel_part f.sample 0 temperature
    + channel_part f.sample f.extra pressure
    + channel_part f.sample f.extra humidity

-- a code above 7 gives 7
unfoldable pub waited : Figures → ℕ → ℕ → ℕ → Answer
waited f temperature pressure humidity =
    cond (reg.are_codes temperature pressure humidity) (given (microseconds f temperature pressure humidity ∷ []))
    (refused no.out_of_range)

-- the paper's number and values for each case
abbrev pub wait_answer : Result ℕ Refusal → Answer
wait_answer (Ok n) = given (n ∷ [])
wait_answer (Err why) = refused why.number
