use Rattle.std.proofs.Common.{◌<◌, vec_len}
use Rattle.cluster_claim.proofs.ratings.Ratings.take_best.Given as goal

abbrev pub invariant-loop-i : goal.invariant-loop-i
invariant-loop-i l = (l.best < vec_len l.self.named) × (l.most.vertex < vec_len l.self.places)
