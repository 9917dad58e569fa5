-- Pieces of an answer, as what they make of a page.
use Rattle.std.specs.Prelude.{ℕ, List}
use Rattle.bench_page.specs.declared.Page.{Page}
use Rattle.bench_page.specs.Page.{letters, ◌▹◌}
use Rattle.bench_numbers.specs.declared.Reason.{Reason}
use Rattle.bench_numbers.specs.declared.Reason.TheVariants.{UnknownWord, WrongNumberOfWords, NotANumber, OddHex, TooLong}

abbrev pub ended : Page → Page
ended p = p ▹ letters "\n"

abbrev pub line : Reason → List ℕ
line UnknownWord = letters "? unknown word\n"
line WrongNumberOfWords = letters "? wrong number of words\n"
line NotANumber = letters "? not a number\n"
line OddHex = letters "? odd hex\n"
line TooLong = letters "? too long\n"

abbrev pub refused : Reason → Page → Page
refused reason p = p ▹ line reason
