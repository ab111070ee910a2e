-- The pass makes another one.
use Rattle.cluster_claim.proofs.StepLaws.{split_asks}
use Rattle.cluster_claim.proofs.pass.Pass.split.Goals as goal

pub split_seat-requires : goal.split_seat-requires
split_seat-requires c = split_asks c.args.words.now.key c.args.words.now.table_id c.args.h.now c.args.cap c.requires.board c.args.self.now c.requires.pass
    c.requires.spare
