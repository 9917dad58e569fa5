-- A forced cycle of the machine: F4 is written, the calibration is copied, the conversion finishes with its counts, and a whole burst reads it. The first
-- event that is refused ends the cycle. All bytes given are taken together by exclusive or.
use Rattle.std.specs.Prelude.{ℕ, zero, suc, cond, List, eqb}
use Rattle.std.specs.Int.Bits.{bit_xor}
use Rattle.paper.specs.Numbers as no
use Rattle.paper.specs.Registers as reg
use Rattle.machine.specs.declared.Machine.{Machine}
use Rattle.machine.specs.declared.Outcome.{Outcome}
use Rattle.machine.specs.Events as ev
use Rattle.measure_cycles.specs.declared.forced.Ridden.{Ridden}

-- the next k bytes
unfoldable pub given : ℕ → Machine → ℕ → Ridden
given zero m seen = record { machine = m; seen = seen }
given (suc k) m seen = given k (ev.byte_given m).machine (bit_xor seen (ev.byte_given m).value)

abbrev pub stopped : Outcome → ℕ → Ridden
stopped o seen = record { machine = o.machine; seen = seen }

abbrev pub closed_after : Ridden → List ℕ → Ridden × List ℕ
closed_after r lent = (record { machine = (ev.closed r.machine lent).0.machine; seen = r.seen }, (ev.closed r.machine lent).1)

unfoldable pub after_open : Outcome → ℕ → List ℕ → Ridden × List ℕ
after_open o seen lent = cond (eqb o.answer no.done) (closed_after (given 8 o.machine seen) lent) (stopped o seen, lent)

unfoldable pub after_finish : Outcome → ℕ → List ℕ → Ridden × List ℕ
after_finish o seen lent = cond (eqb o.answer no.done) (after_open (ev.opened o.machine reg.first_data) seen lent) (stopped o seen, lent)

unfoldable pub after_copied : Outcome → ℕ → ℕ → ℕ → ℕ → List ℕ → Ridden × List ℕ
after_copied o seen t p h lent = cond (eqb o.answer no.done) (after_finish (ev.finished o.machine t p h) seen lent) (stopped o seen, lent)

unfoldable pub after_write : Outcome → ℕ → ℕ → ℕ → ℕ → List ℕ → Ridden × List ℕ
after_write o seen t p h lent = cond (eqb o.answer no.done) (after_copied (ev.copying_ended o.machine) seen t p h lent) (stopped o seen, lent)

unfoldable pub ridden : Machine → ℕ → ℕ → ℕ → ℕ → ℕ → List ℕ → Ridden × List ℕ
ridden m seen f4 t p h lent = after_write (ev.written m reg.ctrl_meas f4) seen t p h lent

-- k cycles one after the other: all bytes given, and the lent bytes
unfoldable pub cycled : ℕ → Machine → ℕ → ℕ → ℕ → ℕ → ℕ → List ℕ → ℕ × List ℕ
cycled zero m seen f4 t p h lent = (seen, lent)
cycled (suc k) m seen f4 t p h lent =
    cycled k (ridden m seen f4 t p h lent).0.machine (ridden m seen f4 t p h lent).0.seen f4 t p h (ridden m seen f4 t p h lent).1
