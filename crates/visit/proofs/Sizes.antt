-- A record has at most 7 steps for each 31 bytes.
use Prim.Native.Nat.{ℕ, zero, suc, ◌+◌, ◌*◌, ◌≤◌}
use native.Mathlib.Omega.{arith}
use mathlib.Core.List.{List, [], ◌∷◌, ◌++◌}
use mathlib.Core.Path.{◌≡◌}
use lib.ListN.{length, length-append}
use Rattle.visit.specs.declared.Place.{Place}
use Rattle.visit.specs.declared.Place.TheVariants as place
use Rattle.visit.specs.Steps.{Step, closed, around}
use Rattle.visit.specs.Tree.{Reading, exact, pascals, gone, Group, Groups, of_slot, of_groups, none, more, Valid, AllValid, reading_bytes, framed, inside, in_all, encode}
use Rattle.visit.specs.Tree.{steps_in, steps_in_all, steps_of}
use Rattle.visit.specs.Records.{MostSteps}

reading-least : (p : Place) (r : Reading) → 5 ≤ length (reading_bytes p r)
reading-least p (exact v) = omega arith
reading-least p (pascals v) = omega arith
reading-least p (gone n) = omega arith

around-length : (ss : List Step) → length (around ss) ≡ length ss + 2
around-length ss = omega (arith, length-append ss (closed ∷ []))

-- a group under which l levels may stand has 7 steps for each 31 bytes, but for 41 for each level that it could have more
mutual
  unfolding inside steps_in

  group-size : (g : Group) (l : ℕ) → l ≤ 3 → Valid g l → 31 * length (steps_of g) + 82 ≤ 7 * length (encode g) + 41 * l
  group-size (of_slot time t p h) l k v =
      omega (
        arith,
        length-append (reading_bytes place.Temperature t) (reading_bytes place.Pressure p ++ reading_bytes place.Humidity h),
        length-append (reading_bytes place.Pressure p) (reading_bytes place.Humidity h),
        reading-least place.Temperature t,
        reading-least place.Pressure p,
        reading-least place.Humidity h,
      )
  group-size (of_groups g gs) zero k v = absurd v
  group-size (of_groups g gs) (suc l) k v =
      omega (
        arith,
        around-length (steps_in (of_groups g gs)),
        length-append (around (steps_in g)) (steps_in_all gs),
        length-append (framed (inside g)) (in_all gs),
        group-size g l (omega arith) v.0,
        groups-size gs l (omega arith) v.1,
      )

  groups-size : (gs : Groups) (l : ℕ) → l ≤ 2 → AllValid gs l → 31 * length (steps_in_all gs) ≤ 7 * length (in_all gs)
  groups-size none l k v = omega arith
  groups-size (more g gs) l k v =
      omega (arith, length-append (around (steps_in g)) (steps_in_all gs), length-append (framed (inside g)) (in_all gs), group-size g l (omega arith) v.0, groups-size gs l k v.1)

pub most-steps : MostSteps
most-steps g r = omega (arith, group-size g 3 (omega arith) r.valid, r.short)
