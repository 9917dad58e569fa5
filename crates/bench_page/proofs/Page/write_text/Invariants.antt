-- The loop keeps that the bytes still to come, written on the page as it is, make the page that the whole text makes.
use Rattle.std.proofs.Common.{◌≡◌, drop}
use Rattle.bench_page.specs.Page.{◌▹◌}
use Rattle.bench_page.proofs.Page.write_text.Given as goal

abbrev pub invariant-loop-byte : goal.invariant-loop-byte
invariant-loop-byte l = l.self ▹ drop l.byte-index l.text ≡ l.fn.self ▹ l.text
