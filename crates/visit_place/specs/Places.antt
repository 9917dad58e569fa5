-- Where a walk over the steps of a visit stands: how many groups are open, and how many groups of each level the one around them has so far.
use Rattle.std.specs.Prelude.{ℕ, ◌+◌, ◌-◌, cond, eqb, ltb}
use Rattle.visit.specs.declared.Step.{Step}
use Rattle.visit.specs.declared.Step.TheVariants.{Open as opened, Slot as slot, Close as closed, Stray as stray}
use Rattle.visit_place.specs.declared.Place.{Place}

-- before the first step
unfoldable pub start : Place
start = record { level = 0; house = 0; floor = 0; room = 0; reading = 0 }

unfoldable pub one_more : ℕ → ℕ
one_more n = cond (ltb n 65535) (n + 1) n

abbrev in_house : Place → Place
in_house p = record { level = 1; house = one_more p.house; floor = 0; room = 0; reading = 0 }

abbrev in_floor : Place → Place
in_floor p = record { level = 2; house = p.house; floor = one_more p.floor; room = 0; reading = 0 }

abbrev in_room : Place → Place
in_room p = record { level = 3; house = p.house; floor = p.floor; room = one_more p.room; reading = 0 }

abbrev in_reading : Place → Place
in_reading p = record { level = 4; house = p.house; floor = p.floor; room = p.room; reading = one_more p.reading }

-- a group more is counted among its brothers, and in it there is none yet
unfoldable pub deeper : Place → Place
deeper p =
    cond (eqb p.level 0) (in_house p)
    (cond (eqb p.level 1) (in_floor p)
    (cond (eqb p.level 2) (in_room p)
    (cond (eqb p.level 3) (in_reading p) p)))

unfoldable pub back : Place → Place
back p = record { level = p.level - 1; house = p.house; floor = p.floor; room = p.room; reading = p.reading }

unfoldable pub number : Place → ℕ
number p =
    cond (eqb p.level 1) p.house
    (cond (eqb p.level 2) p.floor
    (cond (eqb p.level 3) p.room
    (cond (eqb p.level 4) p.reading 0)))

unfoldable pub after : Place → Step → Place
after p opened = deeper p
after p (slot s) = p
after p closed = back p
after p stray = p
