use Rattle.contract_nets.proofs.CutLaws.{part_within}
use Rattle.contract_nets.proofs.merging.fill_part.Goals as goal

pub merge_keys-requires-clause-limits : goal.merge_keys-requires-clause-limits
merge_keys-requires-clause-limits c =
    part_within c.args.nets.now c.args.keys.now c.args.cuts.now c.requires.cuts c.args.j c.requires.part c.requires.limits
