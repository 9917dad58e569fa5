-- A test that computes whether every row's figures are those printed, and that each row's are then.
use mathlib.Core.Path.{◌≡◌, refl, ap}
use mathlib.Core.Bool.{Bool, true, false, ◌&&◌}
use mathlib.Core.List.{List, [], ◌∷◌, Memᴰ}
use lib.Dec.{T, eqb, eqb→eq}
use lib.IntN.{ℤ, pos, negsuc}
use Rattle.sheet.specs.Row.{Row}

-- ---- a test that computes whether two lists of figures are the same

abbrev same_figure : ℤ → ℤ → Bool
same_figure (pos m) (pos n) = eqb m n
same_figure (pos m) (negsuc n) = false
same_figure (negsuc m) (pos n) = false
same_figure (negsuc m) (negsuc n) = eqb m n

abbrev same_figures : List ℤ → List ℤ → Bool
same_figures [] [] = true
same_figures [] (y ∷ ys) = false
same_figures (x ∷ xs) [] = false
same_figures (x ∷ xs) (y ∷ ys) = same_figure x y && same_figures xs ys

-- every row passes the test
abbrev pub agree : List Row → Bool
agree [] = true
agree (r ∷ rs) = same_figures r.defined r.printed && agree rs

-- ---- and so each row's figures are those printed

both : (a b : Bool) → T (a && b) → T a × T b
both true b t = (tt, t)
both false b t = absurd t

same-figure : (x y : ℤ) → T (same_figure x y) → x ≡ y
same-figure (pos m) (pos n) t = ap pos (eqb→eq m n t)
same-figure (pos m) (negsuc n) t = absurd t
same-figure (negsuc m) (pos n) t = absurd t
same-figure (negsuc m) (negsuc n) t = ap negsuc (eqb→eq m n t)

same-figures : (xs ys : List ℤ) → T (same_figures xs ys) → xs ≡ ys
same-figures [] [] t = refl
same-figures [] (y ∷ ys) t = absurd t
same-figures (x ∷ xs) [] t = absurd t
same-figures (x ∷ xs) (y ∷ ys) t =
    let s = both (same_figure x y) (same_figures xs ys) t in
    let p = same-figure x y s.0 in
    let q = same-figures xs ys s.1 in
    cc

pub each : (rs : List Row) → T (agree rs) → (r : Row) → Memᴰ r rs → r.defined ≡ r.printed
each [] t r m = elim m [ ]
each (s ∷ rs) t r (Memᴰ.head e) = rw e (same-figures s.defined s.printed (both (same_figures s.defined s.printed) (agree rs) t).0)
each (s ∷ rs) t r (Memᴰ.tail m) = each rs (both (same_figures s.defined s.printed) (agree rs) t).1 r m
