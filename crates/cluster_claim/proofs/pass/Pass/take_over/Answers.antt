-- The pass takes over what the other one has.
use Rattle.cluster_claim.proofs.StepLaws.{join_asks}
use Rattle.cluster_claim.proofs.pass.Pass.take_over.Goals as goal

pub join_seat-requires : goal.join_seat-requires
join_seat-requires c = join_asks c.args.words.now.key c.args.words.now.table_id c.args._h.now c.args._cap c.requires.board c.args.self.now c.args.other
    c.requires.pass c.requires.other
