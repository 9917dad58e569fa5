-- The chip's words as 18 numbers of 16 bits with a sign, T1 to T3, P1 to P9, H1 to H6: what is read out of a list of them. T1 and P1 have no sign: from 0x8000 on
-- they stand there as themselves less 0x10000. 2 for a list that is not of 18 words, then 7 where H1, H3 or H6 is no word of 8 bits.
use Rattle.std.specs.Prelude.{ℕ, ◌-◌, Bool, cond, ◌&&◌, List, eqb, length, get_or, ℤ, pos, negsuc, nat_abs, Ok, Err}
use Rattle.std.specs.Int.Signed.{le_z}
use Rattle.paper.specs.Numbers as no
use Rattle.paper.specs.Answers.{refusal}
use Rattle.calibration.specs.declared.TemperatureWords.{TemperatureWords}
use Rattle.calibration.specs.declared.PressureWords.{PressureWords}
use Rattle.calibration.specs.declared.HumidityWords.{HumidityWords}
use Rattle.calibration.specs.Calibration.{Calibration}

abbrev pub unsigned : ℤ → ℕ
unsigned (pos n) = n
unsigned (negsuc n) = 0xFFFF - n

abbrev pub word_at : List ℤ → ℕ → ℤ
word_at words k = get_or words k (pos 0)

abbrev pub kept_temperature : List ℤ → TemperatureWords
kept_temperature words = record { t1 = unsigned (word_at words 0); t2 = word_at words 1; t3 = word_at words 2 }

abbrev pub kept_pressure : List ℤ → PressureWords
kept_pressure words =
    record {
      p1 = unsigned (word_at words 3);
      p2 = word_at words 4;
      p3 = word_at words 5;
      p4 = word_at words 6;
      p5 = word_at words 7;
      p6 = word_at words 8;
      p7 = word_at words 9;
      p8 = word_at words 10;
      p9 = word_at words 11;
    }

abbrev pub kept_humidity : List ℤ → HumidityWords
kept_humidity words =
    record {
      h1 = nat_abs (word_at words 12);
      h2 = word_at words 13;
      h3 = nat_abs (word_at words 14);
      h4 = word_at words 15;
      h5 = word_at words 16;
      h6 = word_at words 17;
    }

abbrev pub is_byte : ℤ → Bool
is_byte word = le_z (pos 0) word && le_z word (pos 255)

abbrev pub is_signed_byte : ℤ → Bool
is_signed_byte word = le_z (negsuc 127) word && le_z word (pos 127)

abbrev pub are_words : List ℤ → Bool
are_words words = is_byte (word_at words 12) && (is_byte (word_at words 14) && is_signed_byte (word_at words 17))

unfoldable pub taken : List ℤ → Calibration
taken words =
    cond (eqb (length words) 18)
    (cond (are_words words)
    (Ok (record { temperature = kept_temperature words; pressure = kept_pressure words; humidity = kept_humidity words }))
    (Err (refusal no.out_of_range)))
    (Err (refusal no.wrong_length))
