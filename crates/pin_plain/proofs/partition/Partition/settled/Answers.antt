use Rattle.std.proofs.Common.{arith}
use Rattle.pin_plain.proofs.partition.Partition.settled.Goals as goal

pub returns : goal.returns
returns c =
    let n = c.vertices.ensures.count in (
      λ e v b a. c.settled_within.ensures.0 e v b (omega arith) (let t = a.vertex in omega arith) a,
      λ settled. c.settled_within.ensures.1 (λ v b low high a. settled v b a),
    )
