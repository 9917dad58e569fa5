-- The next pair refused, with no room, or laid.
use Rattle.std.proofs.Common.{arith, ◌≡◌, ◌+◌, ◌-◌, length, sym, ◌∙◌}
use Rattle.std.proofs.lemmas.Result.{err_from_is_err_and}
use Rattle.std.specs.Slice.Iter.{chunks_rest}
use Rattle.bench_numbers.proofs.Laying.{refused, full, two, laid, over}
use Rattle.bench_numbers.proofs.pairs.lay_pairs.Goals as goal

pub returns-in_err-byte : goal.returns-in_err-byte
returns-in_err-byte c =
    let p = err_from_is_err_and c.from_residual.result c.from_residual.ensures.1 in
    let e = c.in-Some.ensures.steps.1 in
    rw (p.1, p.2) (refused _ _ _ _ _ _ _ e.0 (rw c.loop-pair.invariant.two at e.1) e.2 _ c.in_err-byte.ensures ∙ c.loop-pair.invariant.whole)

pub returns-then-lent-at : goal.returns-then-lent-at
returns-then-lent-at c =
    let e = c.in-Some.ensures.steps.1 in
    full _ _ _ _ _ _ _ e.0 (rw c.loop-pair.invariant.two at e.1) e.2 _ c.in_ok-byte.ensures c.if-lent-at.true ∙ c.loop-pair.invariant.whole

pub loop-pair-preserved : goal.loop-pair-preserved
loop-pair-preserved c =
    let e = c.in-Some.ensures.steps.1 in
    let f = rw c.loop-pair.invariant.two at e.1 in
    let l = two c.args.place 0 c.loop-pair.lent c.loop-pair.at _ _ _ e.0 f e.2 _ c.in_ok-byte.ensures in
    let whole = sym (laid c.args.place _ c.loop-pair.lent c.loop-pair.at _ _ _ e.0 f e.2 _ c.in_ok-byte.ensures c.if-lent-at.false) ∙ c.loop-pair.invariant.whole in
    let k : (c.args.from + (length c.args.word.now - length (chunks_rest c.loop-pair.pair-iterator))) + 2
    ≡ c.args.from + (length c.args.word.now - length (chunks_rest c.next.new.self)) =
    omega (arith, c.loop-pair.invariant.within) in
    record {
      two = c.in-Some.ensures.steps.0 ∙ c.loop-pair.invariant.two;
      within = omega (arith, c.loop-pair.invariant.within);
      passed = omega arith;
      whole = rw k at whole;
    }

pub returns : goal.returns
returns c =
    let e = c.in-None.ensures.steps.1.0 in
    let k : c.args.from + (length c.args.word.now - length (chunks_rest c.loop-pair.pair-iterator)) ≡ c.args.from + length c.args.word.now = omega (arith, e) in
    rw (← k) (over _ _ _ _ _ e ∙ c.loop-pair.invariant.whole)
