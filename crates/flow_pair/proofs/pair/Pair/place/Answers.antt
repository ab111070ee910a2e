use Rattle.std.proofs.Common.{slice_index, sym, arith}
use Rattle.flow_pair.proofs.RegionLaws.{position-here, place_none}
use Rattle.flow_pair.proofs.pair.Pair.place.Goals as goal
use Rattle.flow_pair.proofs.pair.Pair.place.Goals.{else-place-self-via-then-place-self+else-self-place, else-place-self-via-else-place-self}

pub returns-then-self-place : goal.returns-then-self-place
returns-then-self-place c =
    let s = c.args.self.now in
    sym (position-here s.region.now c.args.v (slice_index s.places.now c.args.v) s.rising c.if-place-self.true c.if-self-place.true)

pub returns : goal.returns
returns c =
    let s = c.args.self.now in
    place_none s.region.now s.places.now c.args.v s.placed (λ l e. elim c.else-place-self.branch [
      | else-place-self-via-then-place-self+else-self-place w ↦ w.if-self-place.false e
      | else-place-self-via-else-place-self w ↦ absurd (let t = w.if-place-self.false in omega arith)
    ])
