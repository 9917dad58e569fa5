-- Both go by what stands at each place.
use mathlib.Core.Path.{sym, ap, ◌∙◌}
use Rattle.day_row.specs.Row.{answer_of}
use Rattle.day_records.specs.Records.{told_of, row_of, day_of_records}
use Rattle.day_records.specs.Forms.{Call, single, Day}
use Rattle.day_records.proofs.Forms.{names-all, day}
use Rattle.day_places.specs.Records.{Says, AloneInRecords}
use Rattle.day_places.proofs.Kept.{loses-nothing}

module _ (call : Call) (d : Day call) where
  says : Says call
  says one two readings answers k x y f l =
      ap (λ told. answer_of (row_of told)) (d.place one two readings answers k x y f l)
      ∙ ap answer_of (names-all (single one two _)) ∙ loses-nothing one two _ _ _ _

  alone : AloneInRecords call
  alone one two r s a b j k x y f g l h e =
      d.place one two r a j x y f l ∙ ap (λ z. told_of (single one two z)) e ∙ sym (d.place one two s b k x y g h)

pub records-say : Says day_of_records
records-say = says day_of_records day

pub records-alone : AloneInRecords day_of_records
records-alone = alone day_of_records day
