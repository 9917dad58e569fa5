-- The lines of an answer and of a slot, one text after another.
use Rattle.std.proofs.Common.{ℕ}
use Rattle.std.proofs.Common.{List, ◌++◌}
use Rattle.std.proofs.Common.{◌≡◌}
use Rattle.bench_page.specs.declared.Page.{Page}
use Rattle.bench_page.specs.Page.{◌▹◌}
use Rattle.bench_page.proofs.Laws.{joined}
use Rattle.visit_text.specs.Text.{newline}

-- a value after its name, and the line's end
pub valued :
    (name shown : List ℕ) (page : Page) {a b c : Page} → a ≡ page ▹ name → b ≡ a ▹ shown → c ≡ b ▹ newline
    → c ≡ page ▹ (name ++ (shown ++ newline))
valued name shown page e f g = joined name (shown ++ newline) page e (joined shown newline _ f g)

-- four texts
pub four :
    (w x y z : List ℕ) (page : Page) {a b c d : Page} → a ≡ page ▹ w → b ≡ a ▹ x → c ≡ b ▹ y → d ≡ c ▹ z
    → d ≡ page ▹ (w ++ (x ++ (y ++ z)))
four w x y z page e f g h = joined w (x ++ (y ++ z)) page e (joined x (y ++ z) _ f (joined y z _ g h))
