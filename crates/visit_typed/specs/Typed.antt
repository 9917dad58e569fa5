-- What a typed value stands for. A decimal has one to ten digits; an amount may go on with a point and decimals; its unit ends the text.
use Rattle.std.specs.Prelude.{ℕ, zero, suc, ◌+◌, ◌-◌, ◌*◌, ◌/◌, ◌%◌, Bool, true, false, cond, List, [], ◌∷◌, eqb, ltb, leb, length, get_or, take, drop, Option, Some, None, is_some, unwrap_or, Result, Ok, Err}
use Rattle.std.specs.Bool.{then_some}
use Rattle.bench_page.specs.Page.{letters}
use Rattle.visit.specs.Steps.{Answer, value, missing as absent}
use Rattle.visit_typed.specs.declared.Fault.{Fault}
use Rattle.visit_typed.specs.declared.Fault.TheVariants.{Unwritten, Outside, Uneven, NoReason}
use Rattle.visit_typed.specs.declared.digits.Digits.{Digits}
use Rattle.visit_typed.specs.declared.amounts.Amount.{Amount}
use Rattle.visit_typed.specs.declared.amounts.Scale.{Scale}
use Rattle.visit_typed.specs.Same.{same}

-- what a text says: a value's word or that it is missing, or what is wrong with it
abbrev pub Typed : Type 0
Typed = Result Answer Fault

-- ---- digits

-- what a digit stands for, where the character is one
unfoldable pub digit : ℕ → Option ℕ
digit byte = cond (ltb byte 48) None (cond (leb byte 57) (Some (byte - 48)) None)

-- a number of more than ten digits is refused, so it need not grow on
unfoldable pub with_digit : ℕ → ℕ → ℕ
with_digit value d = cond (ltb value 10000000000) (value * 10 + d) value

abbrev pub on_digit : Option ℕ → Digits → (ℕ → Digits) → Digits
on_digit None ended more = ended
on_digit (Some d) ended more = more d

-- a number that goes on with the digits at the front of what is left of a text, and the place after them
unfoldable pub digits_on : ℕ → List ℕ → ℕ → Digits
digits_on value [] at = record { value = value; end = at }
digits_on value (byte ∷ rest) at =
    on_digit (digit byte) (record { value = value; end = at }) (λ d. digits_on (with_digit value d) rest (at + 1))

unfoldable pub digit_at : List ℕ → ℕ → Option ℕ
digit_at text at = cond (ltb at (length text)) (digit (get_or text at 0)) None

-- the place after a digit, or the same place where there is none
abbrev pub past : Option ℕ → ℕ → ℕ
past d at = cond (is_some d) (at + 1) at

-- so many decimals from a place on, with zeros for those that do not stand there
unfoldable pub part_on : List ℕ → ℕ → ℕ → ℕ → Digits
part_on text zero value at = record { value = value; end = at }
part_on text (suc more) value at =
    part_on text more (with_digit value (unwrap_or (digit_at text at) 0)) (past (digit_at text at) at)

unfoldable pub is_decimal : ℕ → Bool
is_decimal count = cond (ltb count 1) false (leb count 10)

abbrev pub if_decimal : Digits → Option Digits
if_decimal read = then_some (is_decimal read.end) read

-- the decimal at a text's front, where there is one
unfoldable pub digits : List ℕ → Option Digits
digits text = if_decimal (digits_on 0 text 0)

abbrev pub if_past : ℕ → Digits → Option Digits
if_past from read = then_some (ltb from read.end) read

-- so many decimals from a place on, where at least one stands there
unfoldable pub part : List ℕ → ℕ → ℕ → Option Digits
part text from places = if_past from (part_on text places 0 from)

-- ---- a decimal that is a text by itself

abbrev pub number_of : Option Digits → ℕ → Option ℕ
number_of None size = None
number_of (Some read) size = then_some (eqb read.end size) read.value

unfoldable pub number : List ℕ → Option ℕ
number text = number_of (digits text) (length text)

-- ---- times

abbrev pub time_of : Option ℕ → Typed
time_of None = Err Unwritten
time_of (Some n) = cond (ltb 0xFFFFFFFF n) (Err Outside) (Ok (value n))

unfoldable pub time : List ℕ → Typed
time text = time_of (number text)

-- ---- missing answers

abbrev pub is_missing : List ℕ → Bool
is_missing text = same (take 8 text) (letters "missing ")

abbrev pub missing_of : Option ℕ → Typed
missing_of None = Err Unwritten
missing_of (Some n) = cond (ltb n 10) (Err NoReason) (cond (ltb 14 n) (Err NoReason) (Ok (absent n)))

-- what stands after the word
abbrev pub reason_of : List ℕ → Typed
reason_of text = missing_of (number text)

unfoldable pub missing : List ℕ → Typed
missing text = reason_of (drop 8 text)

-- ---- amounts

unfoldable pub is_point : List ℕ → ℕ → Bool
is_point text at = cond (ltb at (length text)) (eqb (get_or text at 0) 46) false

abbrev pub whole_amount : Digits → Amount
whole_amount whole = record { whole = whole.value; part = 0; end = whole.end }

abbrev pub part_amount : Digits → Option Digits → Option Amount
part_amount whole None = None
part_amount whole (Some part) = Some (record { whole = whole.value; part = part.value; end = part.end })

abbrev pub amount_of : List ℕ → ℕ → Option Digits → Option Amount
amount_of text places None = None
amount_of text places (Some whole) =
    cond (is_point text whole.end) (part_amount whole (part text (whole.end + 1) places)) (Some (whole_amount whole))

unfoldable pub amount : List ℕ → ℕ → Option Amount
amount text places = amount_of text places (digits text)

-- nothing but the unit stands after the amount
abbrev pub has_unit : List ℕ → Amount → List ℕ → Bool
has_unit text a unit = same (drop a.end text) unit

-- ---- temperatures: hundredths of a degree, in two's complement

unfoldable pub below_zero : ℕ → Typed
below_zero n = cond (ltb 0x80000000 n) (Err Outside) (cond (eqb n 0) (Ok (value 0)) (Ok (value (0x100000000 - n))))

unfoldable pub celsius : Bool → ℕ → ℕ → Typed
celsius minus whole part =
    cond minus (below_zero (whole * 100 + part))
    (cond (ltb 0x7FFFFFFF (whole * 100 + part)) (Err Outside) (Ok (value (whole * 100 + part))))

-- with the degree sign, C2 B0 in UTF-8, or without it
abbrev pub degrees_of : Bool → List ℕ → Option Amount → Typed
degrees_of minus text None = Err Unwritten
degrees_of minus text (Some a) =
    cond (has_unit text a (32 ∷ 0xC2 ∷ 0xB0 ∷ letters "C")) (celsius minus a.whole a.part)
    (cond (has_unit text a (letters " C")) (celsius minus a.whole a.part) (Err Unwritten))

unfoldable pub degrees : Bool → List ℕ → Typed
degrees minus text = degrees_of minus text (amount text 2)

abbrev pub is_minus : List ℕ → Bool
is_minus text = same (take 1 text) (letters "-")

unfoldable pub temperature : List ℕ → Typed
temperature text =
    cond (is_missing text) (missing text) (cond (is_minus text) (degrees true (drop 1 text)) (degrees false text))

-- ---- amounts that a channel counts in parts

-- the word of an amount, of which a step's decimals count one
unfoldable pub counted : Scale → ℕ → ℕ → Typed
counted s whole part =
    let n = whole * s.one + part in
    cond (ltb s.largest whole) (Err Outside)
    (cond (ltb s.most n) (Err Outside) (cond (eqb (n % s.step) 0) (Ok (value (n / s.step))) (Err Uneven)))

abbrev pub scaled_of : Scale → List ℕ → List ℕ → Option Amount → Typed
scaled_of s text unit None = Err Unwritten
scaled_of s text unit (Some a) = cond (has_unit text a unit) (counted s a.whole a.part) (Err Unwritten)

unfoldable pub scaled : Scale → List ℕ → List ℕ → Typed
scaled s text unit = cond (is_missing text) (missing text) (scaled_of s text unit (amount text s.places))

-- ---- pressures: 256ths of a pascal, and 16777215.99609375 Pa is the most

abbrev pub pascal_scale : Scale
pascal_scale = record { places = 8; one = 100000000; largest = 16777215; most = 1677721599609375; step = 390625 }

unfoldable pub pressure : List ℕ → Typed
pressure text = scaled pascal_scale text (letters " Pa")

-- ---- humidities: 1024ths of a percent, and 100 %RH is the most

abbrev pub percent_scale : Scale
percent_scale = record { places = 10; one = 10000000000; largest = 100; most = 1000000000000; step = 9765625 }

unfoldable pub humidity : List ℕ → Typed
humidity text = scaled percent_scale text (letters " %RH")
