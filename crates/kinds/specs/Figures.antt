-- What ties the figures of a row to each other (proofs/Figures.antt).
use Rattle.std.specs.Prelude.{◌+◌, ◌≤◌, ◌≡◌, length}
use Rattle.paper.specs.Registers as reg
use Rattle.kinds.specs.declared.Kind.{Kind}
use Rattle.kinds.specs.Chips.{facts}

-- The data go from F7 to the last address, and are some, and no more than the eight places. The fresh bytes fill these.
pub record Figures (kind : Kind) : Type 0 where
  pub ends_at : reg.first_data + (facts kind).bytes ≡ (facts kind).last + 1
  pub some : 1 ≤ (facts kind).bytes
  pub at_most : (facts kind).bytes ≤ reg.data_length
  pub places : length (facts kind).fresh ≡ reg.data_length
