-- The length and the words decide, and then each word is the one at its place.
use mathlib.Core.Path.{◌≡◌, ap, sym, ◌∙◌}
use native.Mathlib.Omega.{arith}
use Rattle.std.proofs.Common.{rules}
use lib.ListN.{length}
use Rattle.std.proofs.lemmas.Grind.{common_steps}
use Rattle.calibration.specs.Calibration.{calibration_answer}
use Rattle.onegrish_kept.specs.Words.{taken, are_words, kept_humidity}
use Rattle.onegrish_kept.proofs.Bytes.{refused-by, answered-by}
use Rattle.onegrish_kept.proofs.take_words.Goals as goal

pub returns-in_default : goal.returns-in_default
unfolding taken
returns-in_default c = ap calibration_answer (grind (arith, common_steps))

pub returns-in_default-humidity_words : goal.returns-in_default-humidity_words
unfolding taken
returns-in_default-humidity_words c =
    let same : c.in-Ok.words.now ≡ c.args.words.now = search rules in
    let size : length c.args.words.now ≡ 18 = search rules in
    let refused = refused-by (kept_humidity c.in-Ok.words.now) (are_words c.in-Ok.words.now) (sym c.in_default-humidity_words.is ∙ c.humidity_words.ensures) in
    rw (size, rw same at refused)

pub returns : goal.returns
unfolding taken
returns c =
    let same : c.in-Ok.words.now ≡ c.args.words.now = search rules in
    let size : length c.args.words.now ≡ 18 = search rules in
    let answered = answered-by (kept_humidity c.in-Ok.words.now) (are_words c.in-Ok.words.now) (sym c.in-Some.is ∙ c.humidity_words.ensures) in
    rw (answered.1, c.temperature_words.ensures, c.pressure_words.ensures, size, same, rw same at answered.0)
