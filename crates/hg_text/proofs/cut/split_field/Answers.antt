use Rattle.hg_text.proofs.Cuts.{fields_front}
use Rattle.hg_text.proofs.cut.split_field.Goals as goal

pub returns-clause-fields : goal.returns-clause-fields
returns-clause-fields c =
    rw (c.split_at.ensures.front, c.split_at.ensures.back) (fields_front c.args.line.now c.field_len.result c.field_len.ensures)
