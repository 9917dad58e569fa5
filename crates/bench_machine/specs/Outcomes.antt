-- The machine's answers, each with its newline: what each event's answer shows, `fresh` and `ledger`.
use Rattle.std.specs.Prelude.{ℕ, ◌≡◌, List}
use Rattle.paper.specs.Numbers.{done}
use Rattle.kinds.specs.declared.Kind.{Kind}
use Rattle.machine.specs.declared.Event.{Event}
use Rattle.machine.specs.declared.Event.TheVariants as event'
use Rattle.machine.specs.declared.Machine.{Machine}
use Rattle.machine.specs.declared.Outcome.{Outcome}
use Rattle.machine.specs.declared.Tally.{Tally}
use Rattle.machine.specs.Event.{stepped, left_in}
use Rattle.machine.specs.State.{fresh_after}
use Rattle.bench_page.specs.declared.Page.{Page}
use Rattle.bench_page.specs.Page.{letters, ◌▹◌}
use Rattle.bench_page.specs.Digits.{decimal}
use Rattle.bench_lent.specs.Lent.{lent_of}
use Rattle.bench_outcome.specs.declared.Said.{Said}
use Rattle.bench_outcome.specs.declared.Shape.{Shape}
use Rattle.bench_outcome.specs.declared.Shape.TheVariants.{Number, Byte, Close}
use Rattle.bench_outcome.specs.Outcomes as said'

abbrev pub newline : List ℕ
newline = letters "\n"

abbrev pub shape : Event → Shape
shape event'.Power = Number
shape event'.Copied = Number
shape (event'.Write register value) = Number
shape (event'.Finish t p h) = Number
shape event'.Wake = Number
shape (event'.Open address) = Number
shape event'.Byte = Byte
shape (event'.Close n) = Close n

abbrev pub said : Outcome → Said
said o = record {
  answer = o.answer;
  value = o.value;
  whole = o.whole;
  number = o.number;
  codes = o.codes;
  delivered = o.delivered;
  bytes = o.bytes;
}

unfoldable pub event : Machine → Event → Page → Machine × Page
event m e p = ((stepped m e).machine, p ▹ said'.text (said (stepped m e)) (shape e) ▹ newline)

-- what `buf=` shows of a close is what the close leaves in the buffer that it was lent (proofs/Left.antt)
abbrev pub LeftIsTrue : Type 0
LeftIsTrue = (m : Machine) (n : ℕ) → said'.left (said (stepped m (event'.Close n))) n ≡ left_in m (event'.Close n) (lent_of n)

-- ---- fresh, fresh N, and of a BMP280: `0`

unfoldable pub fresh : Kind → ℕ → Page → Machine × Page
fresh kind n p = (fresh_after kind n, p ▹ decimal done ▹ newline)

-- ---- ledger

abbrev pub tally : Tally → List ℕ
tally t = said'.tally t
