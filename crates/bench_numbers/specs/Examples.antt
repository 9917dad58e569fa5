-- Arguments read, by the definitions: the number, where the word ends, and the next place among the bytes.
-- The kinds are 66 for bytes, 67 a code, 68 a decimal, 76 a buffer's length, 80 a pair, 83 the rest of the line.
use Rattle.std.specs.Prelude.{[], ◌∷◌, ◌≡◌, refl, Err}
use Rattle.bench_numbers.specs.declared.Reason.TheVariants.{NotANumber, OddHex, TooLong}
use Rattle.bench_page.specs.Page.{letters}
use Rattle.bench_numbers.specs.Words.{word}
use Rattle.bench_numbers.specs.Reading as reading
use Rattle.bench_numbers.specs.Reading.{argument, given}

pub record Words : Type 0 where
  pub largest-read : argument 68 (letters "fresh 4294967295") 6 [] 0 ≡ (given 4294967295 16 0, [])
  pub one_more : argument 68 (letters "4294967296") 0 [] 0 ≡ (Err NotANumber, [])
  pub letter : argument 68 (letters "4a") 0 [] 0 ≡ (Err NotANumber, [])
  pub no-characters : argument 68 (letters "poll  08") 5 [] 0 ≡ (Err NotANumber, [])
  pub code-out-of-range : argument 67 (letters "256 0 0") 0 [] 0 ≡ (given 255 3 0, [])
  pub longest-buffer : argument 76 (letters "close 256") 6 [] 0 ≡ (given 256 9 0, [])
  pub longer-buffer : argument 76 (letters "close 257") 6 [] 0 ≡ (Err TooLong, [])
  pub either-case : argument 80 (letters "open fA") 5 [] 0 ≡ (given 0xFA 7 0, [])
  pub three-digits : argument 80 (letters "open F7F") 5 [] 0 ≡ (Err NotANumber, [])
  -- laid after the byte of an argument before, with what was lent around them as it was
  pub bytes_read : argument 66 (letters "F427 3") 0 (9 ∷ 0 ∷ 0 ∷ 7 ∷ []) 1 ≡ (given 2 4 3, 9 ∷ 0xF4 ∷ 0x27 ∷ 7 ∷ [])
  pub dash : argument 66 (letters "- 3") 0 (7 ∷ []) 0 ≡ (given 0 1 0, 7 ∷ [])
  -- what was read before a word is refused stays laid
  pub odd : argument 66 (letters "F42") 0 (0 ∷ 0 ∷ []) 0 ≡ (Err OddHex, 0xF4 ∷ 0 ∷ [])
  pub no-digit-and-odd : argument 66 (letters "F42GG") 0 (0 ∷ 0 ∷ []) 0 ≡ (Err NotANumber, 0xF4 ∷ 0 ∷ [])
  pub rest-of-line : argument 83 (letters "9 ( )") 1 [] 0 ≡ (given 1 1 0, [])
  pub no_room : argument 66 (letters "F427") 0 (7 ∷ []) 0 ≡ (Err TooLong, 0xF4 ∷ [])

pub words-read : Words
unfolding word reading.argument reading.number reading.decimal reading.read_on reading.digit_value reading.letter_value reading.octet
    reading.pair reading.second_digit reading.bytes reading.word_laid reading.is_dash reading.pairs_laid
words-read =
    record {
      largest-read = refl;
      one_more = refl;
      letter = refl;
      no-characters = refl;
      code-out-of-range = refl;
      longest-buffer = refl;
      longer-buffer = refl;
      either-case = refl;
      three-digits = refl;
      bytes_read = refl;
      dash = refl;
      odd = refl;
      no-digit-and-odd = refl;
      rest-of-line = refl;
      no_room = refl;
    }
