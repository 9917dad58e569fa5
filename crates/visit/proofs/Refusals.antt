-- The writer's checks stop at the first step with which no record goes on.
use Prim.Native.Nat.{ℕ, ◌+◌}
use native.Mathlib.Omega.{arith}
use mathlib.Core.Bool.{Bool, true, false, cond}
use mathlib.Core.List.{List, [], ◌∷◌, ◌++◌, append-nil, append_assoc}
use mathlib.Core.Logic.{◌⊎◌, inl, inr}
use mathlib.Core.Path.{◌≡◌, refl, sym, ap, ◌∙◌}
use lib.Dec.{ltb}
use lib.ListN.{length, drop}
use Rattle.std.specs.Prelude.{Ok, Err}
use Rattle.visit.specs.declared.Stage.{Stage}
use Rattle.visit.specs.declared.Stage.TheVariants as stage
use Rattle.visit.specs.Tags as tag
use Rattle.visit.specs.Steps.{Step}
use Rattle.visit.specs.Words.{from_words}
use Rattle.visit.specs.Tree.{Group, Valid, steps_of}
use Rattle.visit.specs.Writer.{Turn, onward, halt, turn, Checked, fine, wrong, at_end, go_on, checked, bytes_of}
use Rattle.visit.specs.Lent.{number_at, write_by, write_steps, write_into}
use Rattle.visit.specs.Refusals.{open_from, nothing, last_from, AtStep, AtEnd, RefusesFirst}
use Rattle.visit.proofs.Apart.{apart}
use Rattle.visit.proofs.Checking.{checked-tree}
use Rattle.visit.proofs.Stages.{Reaches, checked-on, reached-tells, refused-number, begins}
use Rattle.paper.specs.Numbers as no
use Rattle.paper.specs.Answers.{Answer as Handed, given, refused}

-- ---- where the checks stop

-- at a step, counted from i on
pub record Stopped (st : Stage) (ss : List Step) (i n k : ℕ) : Type 0 where
  pub before : List Step
  pub step : Step
  pub after : List Step
  pub end : Stage
  pub split : ss ≡ before ++ (step ∷ after)
  pub reached : Reaches st before end
  pub halted : turn end step ≡ halt n
  pub place : k ≡ i + length before

-- or at the end
pub record Unfinished (st : Stage) (ss : List Step) (i n k : ℕ) : Type 0 where
  pub end : Stage
  pub reached : Reaches st ss end
  pub halted : (j : ℕ) → checked end [] j ≡ fine → ⊥
  pub number : n ≡ no.tag_out_of_place
  pub place : k ≡ i + length ss

same_number : (n m i k : ℕ) → wrong n i ≡ wrong m k → n ≡ m
same_number n m i k e = cc

same_place : (n m i k : ℕ) → wrong n i ≡ wrong m k → i ≡ k
same_place n m i k e = cc

end-stops : (st : Stage) (i n k : ℕ) → at_end st i ≡ wrong n k → Unfinished st [] i n k
end-stops stage.Start i n k e =
    record { end = stage.Start; reached = refl; halted = λ j f. unfold checked in apart (cc); number = sym (same_number _ n i k e); place = omega (arith, same_place no.tag_out_of_place n i k e) }
end-stops (stage.Open l held) i n k e =
    record { end = stage.Open l held; reached = refl; halted = λ j f. unfold checked in apart (cc); number = sym (same_number _ n i k e); place = omega (arith, same_place no.tag_out_of_place n i k e) }
end-stops stage.Done i n k e = apart (cc)

-- one step further from the front
later : {st next : Stage} {s : Step} {ss : List Step} {i n k : ℕ} → turn st s ≡ onward next
    → Stopped next ss (i + 1) n k ⊎ Unfinished next ss (i + 1) n k → Stopped st (s ∷ ss) i n k ⊎ Unfinished st (s ∷ ss) i n k
later {st} {next} {s} f (inl x) =
    inl
    (record {
      before = s ∷ x.before;
      step = x.step;
      after = x.after;
      end = x.end;
      split = ap (λ l. s ∷ l) x.split;
      reached = (next, f, x.reached);
      halted = x.halted;
      place = omega (arith, x.place);
    })
later {st} {next} {s} f (inr x) = inr (record { end = x.end; reached = (next, f, x.reached); halted = x.halted; number = x.number; place = omega (arith, x.place) })

stops : (st : Stage) (ss : List Step) (i n k : ℕ) → checked st ss i ≡ wrong n k → Stopped st ss i n k ⊎ Unfinished st ss i n k
unfolding checked
stops st [] i n k e = inr (end-stops st i n k e)
stops st (s ∷ ss) i n k e = go (turn st s) refl (λ next e. stops next ss (i + 1) n k e) e
  where
    go : (x : Turn) → turn st s ≡ x
        → ((next : Stage) → checked next ss (i + 1) ≡ wrong n k → Stopped next ss (i + 1) n k ⊎ Unfinished next ss (i + 1) n k)
        → go_on x i (λ next. checked next ss (i + 1)) ≡ wrong n k → Stopped st (s ∷ ss) i n k ⊎ Unfinished st (s ∷ ss) i n k
    go (Ok next) f again e = later f (again next e)
    go (Err r) f again e =
        inl
        (record {
          before = [];
          step = s;
          after = ss;
          end = st;
          split = refl;
          reached = refl;
          halted = f ∙ ap halt (same_number r.number n i k e);
          place = omega (arith, same_place r.number n i k e);
        })

-- ---- so that is the first fault

-- no record has the step there
no_record : (end : Stage) (p later : List Step) (s : Step) (n : ℕ) → Reaches stage.Start p end → turn end s ≡ halt n
    → (g : Group) → Valid g 3 → steps_of g ≡ p ++ (s ∷ later) → ⊥
unfolding checked
no_record end p later s n r h g v e =
    let a : checked stage.Start (p ++ (s ∷ later)) 0 ≡ fine = ap (λ x. checked stage.Start x 0) (sym e) ∙ checked-tree g v in
    let b = checked-on stage.Start end p (s ∷ later) 0 r in
    let c : checked end (s ∷ later) (0 + length p) ≡ wrong n (0 + length p) = ap (λ x. go_on x (0 + length p) (λ next. checked next later (0 + length p + 1))) h in
    apart (cc)

stopped : (ss : List Step) (n k : ℕ) → Stopped stage.Start ss 0 n k → AtStep ss n k
stopped ss n k x =
    let p = x.before in
    record {
      before = p;
      step = x.step;
      after = x.after;
      split = x.split;
      place_is = omega (arith, x.place);
      number_is = refused-number x.end x.step (open_from 0 p) (last_from nothing p) n (reached-tells stage.Start x.end p 0 nothing (refl, refl) x.reached) x.halted;
      can = begins x.end p x.reached;
      cannot = λ b.
          no_record x.end p b.later x.step n x.reached x.halted b.group b.valid (b.goes_on ∙ append_assoc p (x.step ∷ []) b.later);
    }

unfinished : (ss : List Step) (n k : ℕ) → Unfinished stage.Start ss 0 n k → AtEnd ss n k
unfinished ss n k x =
    record {
      place_is = omega (arith, x.place);
      number_is = x.number;
      can = begins x.end ss x.reached;
      cannot = λ g v e.
          x.halted (0 + length ss)
          (sym (checked-on stage.Start x.end ss [] 0 x.reached) ∙ ap (λ l. checked stage.Start l 0) (append-nil ss ∙ sym e) ∙ checked-tree g v);
    }

fault : (ss : List Step) (n k : ℕ) → Stopped stage.Start ss 0 n k ⊎ Unfinished stage.Start ss 0 n k → AtStep ss n k ⊎ AtEnd ss n k
fault ss n k (inl x) = inl (stopped ss n k x)
fault ss n k (inr x) = inr (unfinished ss n k x)

-- a number with a place is that of the checks
placed : (c : Checked) (bytes lent : List ℕ) (n k : ℕ) → (n ≡ no.done → ⊥) → (write_by c bytes lent).0 ≡ number_at n k → c ≡ wrong n k
placed (wrong m i) bytes lent n k h e =
    let a : m ≡ n = ap (λ (x : Handed). x.number) e in
    let b : i ∷ [] ≡ k ∷ [] = ap (λ (x : Handed). x.values) e in
    cc
placed fine bytes lent n k h e = sized (ltb tag.most_bytes (length bytes)) (ltb (length lent) (length bytes)) e
  where
    sized : (x y : Bool)
        → (cond {A = Handed × List ℕ} x (refused no.wrong_length, lent) (cond y (refused no.buffer_too_short, lent)
        (given (length bytes ∷ []), bytes ++ drop (length bytes) lent))).0 ≡ number_at n k
        → fine ≡ wrong n k
    sized true y e = let b = ap (λ (x : Handed). x.values) e in apart (cc)
    sized false true e = let b = ap (λ (x : Handed). x.values) e in apart (cc)
    sized false false e = absurd (h (sym (ap (λ (x : Handed). x.number) e)))

pub refuses-first : RefusesFirst write_into
unfolding write_into write_steps
refuses-first words lent n k h e =
    let ss = from_words words in
    fault ss n k (stops stage.Start ss 0 n k (placed (checked stage.Start ss 0) (bytes_of ss) lent n k h e))
