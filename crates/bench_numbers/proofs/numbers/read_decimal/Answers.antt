-- No word, and each digit in turn.
use Rattle.std.proofs.Common.{arith, sym, ◌∙◌}
use Rattle.std.proofs.lemmas.Result.{err_from_is_err_and}
use Rattle.bench_numbers.proofs.Decimals.{none, begun, ended, no_digit, too_large, goes_on}
use Rattle.bench_numbers.proofs.numbers.read_decimal.Goals as goal

pub returns-then-is_empty : goal.returns-then-is_empty
returns-then-is_empty c = rw (← c.word-word.ensures.value) (none _ _ _ c.is_empty.ensures c.if-is_empty.true)

pub loop-byte-init : goal.loop-byte-init
loop-byte-init c = (omega arith, begun _ _ _ c.is_empty.ensures c.if-is_empty.false)

pub returns-in_err-value : goal.returns-in_err-value
returns-in_err-value c =
    let p = err_from_is_err_and c.from_residual.result c.from_residual.ensures.1 in
    let q = c.in_err-value.ensures in
    rw (p.1, p.2, q.1, ← c.word-word.ensures.value) (no_digit _ _ _ _ c.loop-byte-test.true q.0 ∙ c.loop-byte.invariant.1)

pub returns-then-value-gt-LARGEST : goal.returns-then-value-gt-LARGEST
returns-then-value-gt-LARGEST c =
    let q = c.in_ok-value.ensures in
    rw (← c.word-word.ensures.value) (too_large _ _ _ _ c.loop-byte-test.true _ q.0 q.1 c.if-value-gt-LARGEST.true ∙ c.loop-byte.invariant.1)

pub loop-byte-preserved : goal.loop-byte-preserved
loop-byte-preserved c =
    let q = c.in_ok-value.ensures in
    (omega arith, sym (goes_on _ _ _ _ c.loop-byte-test.true _ q.0 q.1 c.if-value-gt-LARGEST.false) ∙ c.loop-byte.invariant.1)

pub returns : goal.returns
returns c =
    rw (← c.word-word.ensures.value) (ended _ _ _ _ c.loop-byte-test.false c.loop-byte.auto.byte-index-end ∙ c.loop-byte.invariant.1)
