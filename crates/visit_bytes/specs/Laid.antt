-- Bytes laid down in a lent buffer: from a place on, and a step's so that they end at a place.
use Rattle.std.specs.Prelude.{ℕ, ◌+◌, ◌-◌, cond, List, ◌++◌, ltb, length, take, drop}
use Rattle.visit.specs.declared.Step.{Step}
use Rattle.visit_bytes.specs.Bytes.{lead, size}

-- bytes in the place of as many, from a place on
unfoldable pub over : List ℕ → ℕ → List ℕ → List ℕ
over bytes at lent = take at lent ++ (bytes ++ drop (at + length bytes) lent)

-- the place where a step's bytes begin, and the buffer with them; where they have no room, the buffer as it was
unfoldable pub laid_back : Step → ℕ → ℕ → List ℕ → ℕ × List ℕ
laid_back step held end lent =
    cond (ltb (length lent) end) (end, lent)
    (cond (ltb end (size step)) (end, lent) (end - size step, over (lead step held) (end - size step) lent))
