-- wait: `0 MICROSECONDS`, or the number; poll: `0 place=N polls=N`, or `17 polls=N`.
use Rattle.std.specs.Prelude.{ℕ, List, [], ◌∷◌}
use Rattle.paper.specs.Answers.{Answer}
use Rattle.bench_page.specs.Page.{letters}
use Rattle.bench_page.specs.Digits.{decimal}
use Rattle.bench_row.specs.Row.{filled}

abbrev pub microseconds : ℕ → ℕ → List ℕ
microseconds number n = filled (letters "# #") (number ∷ n ∷ [])

-- the number, and the microseconds where there are any
abbrev pub wait_values : ℕ → List ℕ → List ℕ
wait_values number [] = decimal number
wait_values number (n ∷ rest) = microseconds number n

abbrev pub wait : Answer → List ℕ
wait a = wait_values a.number a.values

abbrev pub ready : ℕ → ℕ → ℕ → List ℕ
ready number place polls = filled (letters "# place=# polls=#") (number ∷ place ∷ polls ∷ [])

abbrev pub unready : ℕ → ℕ → List ℕ
unready number polls = filled (letters "# polls=#") (number ∷ polls ∷ [])

-- the number, with the place and the polls made, or the polls alone
abbrev pub poll_values : ℕ → List ℕ → List ℕ
poll_values number [] = decimal number
poll_values number (polls ∷ []) = unready number polls
poll_values number (place ∷ polls ∷ rest) = ready number place polls

abbrev pub poll : Answer → List ℕ
poll a = poll_values a.number a.values
