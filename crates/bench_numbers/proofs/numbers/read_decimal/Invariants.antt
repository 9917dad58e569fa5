-- The loop keeps that reading on from the value that the digits passed make gives what the whole word gives.
use Rattle.std.proofs.Common.{◌+◌, ◌≡◌, ◌≤◌, drop}
use Rattle.bench_numbers.specs.Reading.{largest, read_on, decimal}
use Rattle.bench_numbers.proofs.numbers.read_decimal.Given as goal

abbrev pub invariant-loop-byte : goal.invariant-loop-byte
invariant-loop-byte l = (l.value ≤ largest) × (read_on l.value (drop l.byte-index l.word) (l.from + l.byte-index) ≡ decimal l.word l.from)
