-- The length of the text, by the law of repeats: it is too long to be counted out.
use Rattle.std.proofs.Common.{◌≡◌, ℕ, sym, length, replicate}
use Rattle.std.proofs.lemmas.List.{length-replicate}
use Rattle.visit_pack.proofs.main.Goals as goal

repeated : (n a : ℕ) → n ≡ length (replicate n a)
repeated n a = sym (length-replicate n a)

pub slice_bounds-pack_input-end : goal.slice_bounds-pack_input-end
slice_bounds-pack_input-end c = repeated 1048577 0
