-- A tree with no whole pascals: as long as before, and valid as before.
use Prim.Native.Nat.{ℕ}
use native.Mathlib.Omega.{arith}
use mathlib.Core.List.{List, ◌++◌}
use mathlib.Core.Path.{◌≡◌, refl}
use lib.ListN.{length, length-append}
use Rattle.visit.specs.declared.Place.{Place}
use Rattle.visit.specs.Tree.{Reading, exact, pascals, gone, Group, Groups, of_slot, of_groups, none, more, reading_bytes, framed, inside, in_all, encode}
use Rattle.visit.specs.Tree.{plain_reading, plain, plain_all}

reading-length : (p : Place) (r : Reading) → length (reading_bytes p (plain_reading r)) ≡ length (reading_bytes p r)
reading-length p (exact v) = refl
reading-length p (pascals v) = refl
reading-length p (gone n) = refl

framed-length : (a b c d : List ℕ) → length a ≡ length c → length b ≡ length d → length (framed a ++ b) ≡ length (framed c ++ d)
framed-length a b c d e f = omega (arith, length-append a b, length-append c d)

mutual
  unfolding inside plain

  inside-length : (g : Group) → length (inside (plain g)) ≡ length (inside g)
  inside-length (of_slot time t p h) = simp (length-append, reading-length)
  inside-length (of_groups g gs) =
      framed-length (inside (plain g)) (in_all (plain_all gs)) (inside g) (in_all gs) (inside-length g) (all-length gs)

  all-length : (gs : Groups) → length (in_all (plain_all gs)) ≡ length (in_all gs)
  all-length none = refl
  all-length (more g gs) =
      framed-length (inside (plain g)) (in_all (plain_all gs)) (inside g) (in_all gs) (inside-length g) (all-length gs)

pub plain-length : (g : Group) → length (encode (plain g)) ≡ length (encode g)
plain-length g = omega (arith, inside-length g)
