-- A walk over years or months, one step on: the rest of the walk from where it has come is the whole walk.
use Rattle.std.proofs.Common.{ℕ, suc, ◌+◌, ◌-◌, ◌≤◌, ◌<◌, arith, ◌≡◌}
use borrow.Author.Tests.{lt-ltb, le-ltb}
use Rattle.visit_date.specs.declared.Walked.{Walked}
use Rattle.visit_date.specs.Dates.{walk}

module _ (days : ℕ → ℕ) (last n left : ℕ) (whole : Walked) (inv : walk days (last - n) n left ≡ whole) where
  module _ (size : ℕ) (e : size ≡ days n) (h : n < last) where
    pub stopped : left < size → record { number = n; left = left } ≡ whole
    unfolding walk
    stopped l =
        let k : last - n ≡ suc (last - (n + 1)) = omega arith in
        rw (← e, lt-ltb left size l) at (rw k at inv)

    pub onward : size ≤ left → walk days (last - (n + 1)) (n + 1) (left - size) ≡ whole
    unfolding walk
    onward l =
        let k : last - n ≡ suc (last - (n + 1)) = omega arith in
        rw (← e, le-ltb left size l) at (rw k at inv)

  pub ended : n ≡ last → record { number = last; left = left } ≡ whole
  unfolding walk
  ended h =
      let k : last - n ≡ 0 = omega arith in
      rw (k, h) at inv
