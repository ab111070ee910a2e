use Rattle.std.proofs.Common.{ℕ, ◌+◌, ap, ◌∙◌}
use Rattle.hg_base.specs.Packed as packed
use Rattle.hg_base.proofs.PackedLaws.{raised_field}
use Rattle.hg_base.proofs.packed.raise_field.Goals as goal

pub returns-clause-fields : goal.returns-clause-fields
returns-clause-fields c q =
    ap (λ (u : ℕ). packed.field (c.args.word + u) c.args.bits q) c.unit.ensures ∙ raised_field c.args.word c.args.bits c.args.place q c.requires.room
