-- Compensation by the kind of part: both blocks, the data bytes and three oversampling codes. Lengths, and whether there is humidity, are the table's.
use Rattle.std.specs.Prelude.{ℕ, Bool, cond, ◌&&◌, List, eqb, length, Ok, Err}
use Rattle.paper.specs.Numbers as no
use Rattle.paper.specs.Registers as reg
use Rattle.kinds.specs.declared.Kind.{Kind}
use Rattle.kinds.specs.Chips.{facts}
use Rattle.data.specs.declared.Counts.{Counts}
use Rattle.data.specs.Counts.{counts_of}
use Rattle.calibration.specs.declared.Words.{Words}
use Rattle.calibration.specs.Calibration.{words_of}
use Rattle.paper.specs.Answers.{missing, refusal}
use Rattle.compensation.specs.declared.Reading.{Reading}
use Rattle.compensation.specs.Compensation as comp

-- temperature and pressure take the same steps in both kinds; where there is no humidity its channel is skipped, whatever its code
abbrev pub reading_by : Kind → Words → Counts → ℕ → ℕ → ℕ → Reading
reading_by kind words counts t p h =
    let temperature = comp.temperature_channel t words.temperature counts.temperature in
    record {
      temperature = temperature;
      pressure = comp.pressure_channel p temperature words.pressure counts.pressure;
      humidity =
          cond (facts kind).humidity
          (comp.humidity_channel h temperature words.humidity counts.humidity)
          (Err (missing no.skipped));
    }

-- the lengths of block one, block two and the data
abbrev pub are_lengths : Kind → ℕ → ℕ → ℕ → Bool
are_lengths kind one two bytes =
    eqb one (facts kind).one && (eqb two (facts kind).two && eqb bytes (facts kind).bytes)

-- lengths are checked first (2), then the codes (7), the third too
unfoldable pub compensated_by : Kind → List ℕ → List ℕ → List ℕ → ℕ → ℕ → ℕ → comp.Answer
compensated_by kind one two bytes t p h =
    cond (are_lengths kind (length one) (length two) (length bytes))
    (cond (reg.are_codes t p h)
    (Ok (reading_by kind (words_of one two) (counts_of bytes) t p h))
    (Err (refusal no.out_of_range)))
    (Err (refusal no.wrong_length))
