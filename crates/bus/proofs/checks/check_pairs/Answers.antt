-- The code checks in the order of the definition.
use mathlib.Core.Path.{sym, ◌∙◌}
use Rattle.std.proofs.Common.{rules}
use Rattle.bus.specs.RegisterByte.{is_changed_writable}
use Rattle.bus.specs.Writing.{pairs_number}
use Rattle.bus.proofs.checks.check_pairs.Goals as goal

pub returns-then-not-are_pairs : goal.returns-then-not-are_pairs
unfolding pairs_number
returns-then-not-are_pairs c = rw (c.refused.ensures, sym c.are_pairs.ensures ∙ c.if-not-are_pairs.true)

pub returns-then-not-every : goal.returns-then-not-every
unfolding pairs_number
returns-then-not-every c =
    let asked = c.every.ensures (is_changed_writable c.args.change) (λ byte answer h p. search rules) in
    rw (
      c.refused-then-not-every.ensures,
      sym c.are_pairs.ensures ∙ c.if-not-are_pairs.false,
      sym asked ∙ c.if-not-every.true,
    )

pub returns : goal.returns
unfolding pairs_number
returns c =
    let asked = c.every.ensures (is_changed_writable c.args.change) (λ byte answer h p. search rules) in
    rw (c.check_room.ensures, sym c.are_pairs.ensures ∙ c.if-not-are_pairs.false, sym asked ∙ c.if-not-every.false)
