-- The code's table has the rule's samples at every code: one test over the whole table, and the law that makes it the rule at each entry.
-- the table is the one that the code reads: the search takes it from what is to be shown, and computes the test
use Prim.Native.Nat.{ℕ, ◌≤◌}
use mathlib.Core.Bool.{Bool}
use mathlib.Core.List.{List}
use mathlib.Core.Path.{◌≡◌}
use lib.Dec.{eqb}
use lib.ListN.{get_or}
use borrow.Author.Tests.{eqb-true}
use Rattle.paper.specs.Registers as reg
use Rattle.waiting.specs.Waiting.{samples}
use Rattle.waiting.proofs.EveryCode.{EveryCode, at_code}
use Rattle.waiting.proofs.conversion.samples.Goals as goal

abbrev has_samples : List ℕ → ℕ → Bool
has_samples table code = eqb (get_or table code 0) (samples code)

entry : (table : List ℕ) (code : ℕ) → code ≤ reg.last_code → EveryCode (has_samples table) → get_or table code 0 ≡ samples code
entry table code h e = eqb-true (get_or table code 0) (samples code) (at_code (has_samples table) e code h)

pub returns : goal.returns
unfolding samples
returns c = search entry
