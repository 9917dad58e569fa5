-- The loop keeps that the pairs of the bytes still to come, written on the page as it is, make the page that all of them make.
use Rattle.std.proofs.Common.{◌≡◌, drop}
use Rattle.bench_page.specs.Page.{◌▹◌}
use Rattle.bench_page.specs.Digits.{pairs, shown}
use Rattle.bench_page.proofs.Page.write_bytes.Given as goal

abbrev pub invariant-loop-byte : goal.invariant-loop-byte
invariant-loop-byte l = l.self ▹ pairs (drop l.byte-index l.bytes) ≡ l.fn.self ▹ shown l.bytes
