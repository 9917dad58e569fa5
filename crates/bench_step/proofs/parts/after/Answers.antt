-- The rest after the mark, or nothing.
use mathlib.Core.Path.{◌∙◌}
use Rattle.bench_step.proofs.Fronts.{after-mark, no-mark, place-is}
use Rattle.bench_step.proofs.parts.after.Goals as goal

pub returns-then-end-text : goal.returns-then-end-text
returns-then-end-text c =
    let f = c.find-end.ensures in
    c.rest.ensures ∙ after-mark _ _ _ (place-is _ _ _ f.within f.before f.found)

pub returns : goal.returns
returns c =
    let f = c.find-end.ensures in
    c.rest-2.ensures ∙ no-mark _ _ _ (place-is _ _ _ f.within f.before f.found) c.if-end-text.false
