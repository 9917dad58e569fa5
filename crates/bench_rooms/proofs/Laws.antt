-- Three texts with single spaces between them, one after another; a flag as a number.
use Prim.Native.Nat.{ℕ}
use mir.Val.{bool_byte}
use mathlib.Core.Bool.{Bool, true, false}
use mathlib.Core.List.{List, [], ◌∷◌}
use mathlib.Core.Path.{◌≡◌, refl}
use Rattle.rooms.specs.Points.{flag}
use Rattle.bench_page.specs.declared.Page.{Page}
use Rattle.bench_page.specs.Page.{◌▹◌}
use Rattle.bench_page.proofs.Laws.{joined, first}
use Rattle.bench_rooms.specs.Map.{spaced}

pub three :
    (x y z : List ℕ) (page : Page) {a b c d e : Page} → a ≡ page ▹ x → b ≡ a ▹ 32 ∷ [] → c ≡ b ▹ y → d ≡ c ▹ 32 ∷ []
    → e ≡ d ▹ z → e ≡ page ▹ spaced x y z
three x y z page f g h i j = joined x _ page f (first 32 _ _ g (joined y _ _ h (first 32 z _ i j)))

pub flagged : (b : Bool) → bool_byte b ≡ flag b
flagged true = refl
flagged false = refl
