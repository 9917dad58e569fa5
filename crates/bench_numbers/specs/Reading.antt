-- Arguments read: what a decimal, a pair of hex digits and a string of hex pairs stand for, where their words end, and why a word is refused.
use Rattle.std.specs.Prelude.{ℕ, ◌+◌, ◌-◌, ◌*◌, min, Bool, false, cond, List, [], ◌∷◌, eqb, leb, ltb, length, drop, set, Result, Ok, Err}
use Rattle.bench_numbers.specs.declared.Reason.{Reason}
use Rattle.bench_numbers.specs.declared.Reason.TheVariants.{NotANumber, OddHex, TooLong}
use Rattle.bench_numbers.specs.declared.numbers.Number.{Number}
use Rattle.bench_numbers.specs.declared.Argument.{Argument}
use Rattle.bench_numbers.specs.Words.{word, is_none}

-- a number and the place where its word ends, and an argument with the place of the next byte too
abbrev pub valued : ℕ → ℕ → Result Number Reason
valued value end = Ok (record { value = value; end = end })

abbrev pub given : ℕ → ℕ → ℕ → Result Argument Reason
given number end place = Ok (record { number = number; end = end; place = place })

-- ---- digits

-- what a hex digit that is a letter stands for, of either case; 16 where the character is none
unfoldable pub letter_value : ℕ → ℕ
letter_value byte =
    cond (ltb byte 65) 16
    (cond (leb byte 70) (byte - 55)
    (cond (ltb byte 97) 16
    (cond (leb byte 102) (byte - 87) 16)))

-- what a digit stands for; 16 where the character is no digit
unfoldable pub digit_value : ℕ → ℕ
digit_value byte = cond (ltb byte 48) 16 (cond (leb byte 57) (byte - 48) (letter_value byte))

-- ---- a decimal: one or more digits 0 to 9, at most 4,294,967,295

abbrev pub largest : ℕ
largest = 4294967295

-- what is read after a number, of the rest of a word that goes on at a place
unfoldable pub read_on : ℕ → List ℕ → ℕ → Result Number Reason
read_on value [] at = valued value at
read_on value (byte ∷ rest) at =
    cond (ltb 9 (digit_value byte)) (Err NotANumber)
    (cond (ltb largest (value * 10 + digit_value byte)) (Err NotANumber)
    (read_on (value * 10 + digit_value byte) rest (at + 1)))

unfoldable pub decimal : List ℕ → ℕ → Result Number Reason
decimal text at = cond (is_none text) (Err NotANumber) (read_on 0 text at)

-- ---- a pair: the first two characters of a word, both hex digits

unfoldable pub second_digit : ℕ → List ℕ → Result ℕ Reason
second_digit high [] = Err OddHex
second_digit high (byte ∷ rest) =
    cond (ltb 15 (digit_value byte)) (Err NotANumber) (Ok (high * 16 + digit_value byte))

unfoldable pub pair : List ℕ → Result ℕ Reason
pair [] = Err NotANumber
pair (byte ∷ rest) = cond (ltb 15 (digit_value byte)) (Err NotANumber) (second_digit (digit_value byte) rest)

-- a number of exactly two hex digits
abbrev pub alone : Result ℕ Reason → Bool → ℕ → Result Number Reason
alone (Err reason) ends at = Err NotANumber
alone (Ok byte) ends at = cond ends (valued byte (at + 2)) (Err NotANumber)

unfoldable pub octet : List ℕ → ℕ → Result Number Reason
octet text at = alone (pair text) (is_none (drop 2 text)) at

-- ---- a string of hex pairs, or a dash for none

unfoldable pub is_dash : List ℕ → Bool
is_dash [] = false
is_dash (byte ∷ rest) = cond (eqb byte 45) (is_none rest) false

-- one byte more where it is lent, if there is room
abbrev pub onward : Result ℕ Reason → List ℕ → ℕ → (List ℕ → Result Argument Reason × List ℕ) → Result Argument Reason × List ℕ
onward (Err reason) lent place more = (Err reason, lent)
onward (Ok byte) lent place more = cond (ltb place (length lent)) (more (set lent place byte)) (Err TooLong, lent)

-- the bytes of a word that goes on at a place, laid one after another; how many they are is the places passed since the start
unfoldable pub pairs_laid : ℕ → List ℕ → ℕ → List ℕ → ℕ → Result Argument Reason × List ℕ
pairs_laid start [] at lent place = (given (place - start) at place, lent)
pairs_laid start (high ∷ []) at lent place = onward (pair (high ∷ [])) lent place (λ more. (Err OddHex, more))
pairs_laid start (high ∷ low ∷ rest) at lent place =
    onward (pair (high ∷ low ∷ rest)) lent place (λ more. pairs_laid start rest (at + 2) more (place + 1))

-- a word of no characters stands for nothing, and a dash for no bytes
unfoldable pub word_laid : List ℕ → ℕ → List ℕ → ℕ → Result Argument Reason × List ℕ
word_laid text at lent place =
    cond (is_none text) (Err NotANumber, lent)
    (cond (is_dash text) (given 0 (at + 1) place, lent)
    (pairs_laid place text at lent place))

unfoldable pub bytes : List ℕ → ℕ → List ℕ → ℕ → Result Argument Reason × List ℕ
bytes line at lent place = word_laid (word (drop at line)) at lent place

-- ---- arguments, by their kinds: B bytes, P a pair, C a code, D a decimal, L a buffer's length, S the rest of the line

abbrev pub largest_code : ℕ
largest_code = 255

abbrev pub longest_buffer : ℕ
longest_buffer = 256

-- a code that a byte does not hold is out of range all the same; a buffer of more than the longest is refused
abbrev pub limited : ℕ → Result Number Reason → Result Number Reason
limited kind (Err reason) = Err reason
limited kind (Ok number) =
    cond (eqb kind 67) (valued (min number.value largest_code) number.end)
    (cond (eqb kind 76) (cond (ltb longest_buffer number.value) (Err TooLong) (Ok number))
    (Ok number))

unfoldable pub number : ℕ → List ℕ → ℕ → Result Number Reason
number kind text at = cond (eqb kind 80) (octet text at) (limited kind (decimal text at))

-- a number lays no byte
abbrev pub beside : Result Number Reason → ℕ → Result Argument Reason
beside (Err reason) place = Err reason
beside (Ok number) place = given number.value number.end place

-- the number of the rest of a line is the place where it begins
unfoldable pub argument : ℕ → List ℕ → ℕ → List ℕ → ℕ → Result Argument Reason × List ℕ
argument kind line at lent place =
    cond (eqb kind 66) (bytes line at lent place)
    (cond (eqb kind 83) (given at at place, lent)
    (beside (number kind (word (drop at line)) at) place, lent))

-- ---- a text that is a decimal; one more than the largest where it is none

abbrev pub value_of : Result Number Reason → ℕ
value_of (Err reason) = 4294967296
value_of (Ok number) = number.value

unfoldable pub number_of : List ℕ → ℕ
number_of text = value_of (decimal (word text) 0)
