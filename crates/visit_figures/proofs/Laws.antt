-- Long division, one decimal on and at its end.
use Rattle.std.proofs.Common.{ℕ, suc, ◌+◌, ◌-◌, ◌*◌, ◌/◌, ◌%◌, ◌≤◌, ◌<◌}
use Rattle.std.proofs.Common.{arith}
use borrow.Author.Tests.{eq-eqb, ne_eqb}
use Rattle.std.proofs.Common.{[], ◌∷◌}
use Rattle.std.proofs.Common.{◌≡◌}
use Rattle.bench_page.specs.declared.Page.{Page}
use Rattle.bench_page.specs.Page.{written, ◌▹◌}
use Rattle.visit_figures.specs.Figures.{digit, decimals}

module _ (places done left unit : ℕ) (p whole : Page) (inv : p ▹ decimals (places - done) left unit ≡ whole) where
  pub ended : places ≤ done → p ≡ whole
  unfolding written decimals
  ended h =
      let k : places - done ≡ 0 = omega arith in
      rw k at inv

  module _ (h : done < places) where
    pub stopped : left ≡ 0 → p ≡ whole
    unfolding written decimals
    stopped e =
        let k : places - done ≡ suc (places - (done + 1)) = omega arith in
        rw (eq-eqb left 0 e) at (rw k at inv)

    pub onward :
        {q : Page} {d : ℕ} → (left ≡ 0 → ⊥) → d ≡ digit (left * 10 / unit) → q ≡ p ▹ d ∷ []
        → q ▹ decimals (places - (done + 1)) (left * 10 % unit) unit ≡ whole
    unfolding written decimals
    onward e f g =
        let k : places - done ≡ suc (places - (done + 1)) = omega arith in
        rw (g, f) (rw (ne_eqb left 0 e) at (rw k at inv))
