-- What an event hands back, as text: its number, with what `byte` and `close` give beside it; and the ledger.
use Rattle.std.specs.Prelude.{ℕ, Bool, cond, List, [], ◌∷◌, ◌++◌, eqb, take}
use Rattle.paper.specs.Numbers.{done}
use Rattle.machine.specs.declared.Tally.{Tally}
use Rattle.bench_page.specs.Page.{letters}
use Rattle.bench_page.specs.Digits.{decimal}
use Rattle.bench_row.specs.Row.{filled, buffer}
use Rattle.bench_lent.specs.Lent.{lent_of}
use Rattle.bench_outcome.specs.declared.Said.{Said}
use Rattle.bench_outcome.specs.declared.Shape.{Shape}
use Rattle.bench_outcome.specs.declared.Shape.TheVariants.{Number, Byte, Close}

abbrev pub bit : Bool → ℕ
bit b = cond b 1 0

-- ---- byte: `0 XX`

abbrev pub given : ℕ → ℕ → List ℕ
given answer value = cond (eqb answer done) (filled (letters "# @") (answer ∷ value ∷ [])) (decimal answer)

-- ---- close LEN: `0 whole n=NUMBER codes=T,P,H before=0 buf=..`, or `partial`; `N buf=..`

abbrev pub whole : Bool → List ℕ
whole w = cond w (letters "0 whole") (letters "0 partial")

unfoldable pub burst : Said → List ℕ
burst s =
    whole s.whole
    ++ filled (letters " n=# codes=#,#,# before=#")
    (s.number ∷ s.codes.temperature ∷ s.codes.pressure ∷ s.codes.humidity ∷ bit s.delivered ∷ [])

abbrev pub closing : Said → List ℕ
closing s = cond (eqb s.answer done) (burst s) (decimal s.answer)

-- the lent buffer afterwards: the first n bytes of a whole close, and otherwise as it was lent
abbrev pub left : Said → ℕ → List ℕ
left s n = cond s.whole (take n s.bytes) (lent_of n)

unfoldable pub closed : Said → ℕ → List ℕ
closed s n = closing s ++ buffer (left s n)

-- ---- each shape

abbrev pub text : Said → Shape → List ℕ
text s Number = decimal s.answer
text s Byte = given s.answer s.value
text s (Close n) = closed s n

-- ---- ledger

unfoldable pub tally : Tally → List ℕ
tally t =
    filled (letters "begun=# delivered=# overwritten=# abandoned=# standing=# running=# waiting=# shown=#")
    (t.ledger.begun
    ∷ t.ledger.delivered
    ∷ t.ledger.overwritten
    ∷ t.ledger.abandoned
    ∷ t.ledger.standing
    ∷ bit t.running
    ∷ bit t.waiting
    ∷ bit t.unread
    ∷ [])
