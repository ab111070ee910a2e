use Rattle.std.proofs.Common.{ℕ, ◌+◌, ◌-◌, ap, ◌∙◌, nat_eq, if◌then◌else◌}
use Rattle.hg_base.specs.Packed as packed
use Rattle.hg_base.proofs.PackedLaws.{lowered_field}
use Rattle.hg_base.proofs.packed.lower_field.Goals as goal

pub returns-clause-fields : goal.returns-clause-fields
returns-clause-fields c q =
    ap (λ (u : ℕ). packed.field (c.args.word - u) c.args.bits q + (if nat_eq q c.args.place then 1 else 0)) c.unit.ensures ∙ lowered_field c.args.word
    c.args.bits c.args.place q c.requires.some
