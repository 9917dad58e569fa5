-- The loop keeps that the pairs still to come, laid after those that are, make what the whole word makes of what was lent.
use Rattle.std.specs.Slice.Iter.{chunks_rest, chunks_size}
use Rattle.std.proofs.Common.{length, ◌+◌, ◌-◌, ◌≡◌, ◌≤◌}
use Rattle.bench_numbers.specs.Reading.{pairs_laid}
use Rattle.bench_numbers.proofs.pairs.lay_pairs.Given as goal

abbrev pub invariant-loop-pair : goal.invariant-loop-pair
invariant-loop-pair l =
    record {
      two : chunks_size l.pair-iterator ≡ 2;
      within : length (chunks_rest l.pair-iterator) ≤ length l.word;
      passed : l.place ≤ l.at;
      whole : pairs_laid l.place (chunks_rest l.pair-iterator) (l.from + (length l.word - length (chunks_rest l.pair-iterator))) l.lent l.at
          ≡ pairs_laid l.place l.word l.from l.fn.lent l.place;
    }
