-- The loop over the steps' checks: what is left to check at a place gives what the whole list gives.
use Prim.Native.Nat.{ℕ, ◌+◌, ◌/◌, ◌<◌}
use mathlib.Core.List.{List, ◌∷◌}
use mathlib.Core.Path.{◌≡◌, sym, ap, ◌∙◌}
use native.Mathlib.Omega.{arith}
use lib.ListN.{length, drop, drop_of_length-le}
use Rattle.std.specs.Prelude.{Ok, Err}
use Rattle.paper.specs.declared.Refusal.{Refusal}
use Rattle.visit.specs.declared.Stage.{Stage}
use Rattle.visit.specs.declared.Stage.TheVariants as stage
use Rattle.visit.specs.declared.Step.{Step}
use Rattle.visit.specs.Words.{words_each, from_words}
use Rattle.visit.specs.Writer.{Turn, turn, Checked, wrong, at_end, go_on, checked}
use Rattle.visit_step.specs.Places.{step_at}
use Rattle.visit_write.proofs.Steps.{count_of, next-step}

abbrev checked_all : List ℕ → Checked
checked_all w = checked stage.Start (from_words w) 0

pub record Checking (w : List ℕ) (k : ℕ) (st : Stage) : Type 0 where
  pub same : checked st (drop k (from_words w)) k ≡ checked_all w

module _ (w : List ℕ) (k : ℕ) (st : Stage) (f : Checking w k st) where
  one_more : (s : Step) (t : Turn) → k < length w / words_each → s ≡ step_at w k → t ≡ turn st s
      → go_on t k (λ next. checked next (drop (k + 1) (from_words w)) (k + 1)) ≡ checked_all w
  unfolding checked
  one_more s t h e g =
      let next : drop k (from_words w) ≡ s ∷ drop (k + 1) (from_words w) = next-step w k h ∙ rw e in
      ap (λ (u : Turn). go_on u k (λ next. checked next (drop (k + 1) (from_words w)) (k + 1))) g
      ∙ sym (ap (λ (l : List Step). checked st l k) next) ∙ f.same

  pub checking-on : (s : Step) (next : Stage) → k < length w / words_each → s ≡ step_at w k → Ok next ≡ turn st s → Checking w (k + 1) next
  checking-on s next h e g = record { same = one_more s (Ok next) h e g }

  pub checking-halt : (s : Step) (r : Refusal) → k < length w / words_each → s ≡ step_at w k → Err r ≡ turn st s → wrong r.number k ≡ checked_all w
  checking-halt s r h e g = one_more s (Err r) h e g

  pub checking-end : k ≡ length w / words_each → at_end st (length w / words_each) ≡ checked_all w
  unfolding checked
  checking-end h =
      ap (at_end st) (sym h)
      ∙ ap (λ (l : List Step). checked st l k) (sym (drop_of_length-le (from_words w) {i = k} (omega (arith, count_of w)))) ∙ f.same
