use Rattle.visit_bytes.proofs.Over.{slot-over}
use Rattle.visit_bytes.proofs.fields.lay_slot.Goals as goal

pub returns : goal.returns
returns c =
    slot-over _ _ _ _ _ _ _ _ _ c.requires c.answer.ensures.size c.answer-2.ensures.size
    c.lay_value.ensures c.lay_answer.ensures c.lay_answer-2.ensures c.lay_answer-3.ensures
