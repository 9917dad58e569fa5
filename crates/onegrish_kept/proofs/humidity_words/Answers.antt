-- Each word is the one at its place, and those of 8 bits have them.
use mathlib.Core.Path.{◌≡◌}
use native.Mathlib.Omega.{arith}
use lib.IntN.{pos}
use mir.Syntax.{w8, w16}
use mir.Val.{SFits}
use mir.Facts.{to_z-of_z}
use Rattle.std.proofs.Common.{rules, slice_index_or}
use Rattle.std.proofs.lemmas.Grind.{common_steps}
use Rattle.onegrish_kept.proofs.Bytes.{byte-is, signed-byte-is}
use Rattle.onegrish_kept.proofs.humidity_words.Goals as goal

pub returns : goal.returns
returns c =
    let h2 : SFits w16 (slice_index_or c.args.words.now 13 (pos 0)) = search rules in
    let h4 : SFits w16 (slice_index_or c.args.words.now 15 (pos 0)) = search rules in
    let h5 : SFits w16 (slice_index_or c.args.words.now 16 (pos 0)) = search rules in
    let h6 : SFits w8 c.in_ok-ok-3.field-0 = search rules in
    let h1-is : slice_index_or c.args.words.now 12 (pos 0) ≡ pos c.in_ok-ok.field-0 = grind (arith, common_steps) in
    let h3-is : slice_index_or c.args.words.now 14 (pos 0) ≡ pos c.in_ok-ok-2.field-0 = grind (arith, common_steps) in
    let h6-is : slice_index_or c.args.words.now 17 (pos 0) ≡ c.in_ok-ok-3.field-0 = search rules in
    rw (to_z-of_z h2, to_z-of_z h4, to_z-of_z h5, to_z-of_z h6)
    (rw (h1-is, h3-is, h6-is, byte-is c.in_ok-ok.field-0 (omega arith), byte-is c.in_ok-ok-2.field-0 (omega arith), signed-byte-is c.in_ok-ok-3.field-0 h6))
