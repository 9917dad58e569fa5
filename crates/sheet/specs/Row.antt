-- A row of the bench sheet: the figures that the definitions give, and those that the paper prints.
use Rattle.std.specs.Prelude.{ℕ, List, ℤ}

pub record Row : Type 0 where
  pub name : ℕ  -- n of Kn
  pub defined : List ℤ
  pub printed : List ℤ
