-- One character of the row on, and at its end.
use Rattle.std.specs.Prelude.{ℕ, ◌+◌, ◌≤◌, ◌<◌, List, [], ◌∷◌, ◌≡◌, refl, length, get_or, drop, Result, Err}
use Rattle.std.proofs.Common.{drop_of_length-le, sym, ◌∙◌}
use Rattle.std.proofs.lemmas.Result.{err_from_is_err_and}
use Rattle.laws.specs.Rest.{rest}
use Rattle.bench_numbers.specs.declared.Reason.{Reason}
use Rattle.bench_command.specs.declared.arguments.Progress.{Progress}
use Rattle.bench_command.specs.Arguments.{start, stepped, walked}
use Rattle.bench_command.proofs.arguments.walk.Goals as goal

one_more :
    (row line : List ℕ) (i : ℕ) (w v : Result Progress Reason × List ℕ) → i < length row → v ≡ stepped (get_or row i 0) line w
    → walked (drop (i + 1) row) line v ≡ walked (drop i row) line w
unfolding walked
one_more row line i w v h e = rw (e, rest row i h)

-- once an argument is refused, nothing more is read
stopped : (row line : List ℕ) (reason : Reason) (lent : List ℕ) → walked row line (Err reason, lent) ≡ (Err reason, lent)
unfolding walked stepped
stopped [] line reason lent = refl
stopped (character ∷ row) line reason lent = stopped row line reason lent

all : (row line : List ℕ) (i : ℕ) (w : Result Progress Reason × List ℕ) → length row ≤ i → w ≡ walked (drop i row) line w
unfolding walked
all row line i w h = rw (drop_of_length-le row h)

pub loop-character-init : goal.loop-character-init
unfolding start
loop-character-init c = refl

pub returns-in_err-w : goal.returns-in_err-w
returns-in_err-w c =
    let p = err_from_is_err_and c.from_residual.result c.from_residual.ensures.1 in
    rw (p.1, p.2)
    (sym (stopped _ _ _ _) ∙ one_more _ _ _ _ _ c.loop-character-test.true c.in_err-w.ensures ∙ c.loop-character.invariant)

pub loop-character-preserved : goal.loop-character-preserved
loop-character-preserved c = one_more _ _ _ _ _ c.loop-character-test.true c.in_ok-w.ensures ∙ c.loop-character.invariant

pub returns : goal.returns
returns c = all _ _ _ _ c.loop-character-test.false ∙ c.loop-character.invariant
