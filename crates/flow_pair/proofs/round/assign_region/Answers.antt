use Rattle.std.proofs.Common.{◌<◌, ◌+◌, ◌∙◌, length, All, sym, ap, subst, slice_index, slice_set}
use Rattle.hg_defs.specs.Hypergraph.{vertex_count}
use Rattle.pin_plain.specs.Parted.{Parted}
use Rattle.pin_plain.proofs.SweepLaws.{same_step}
use Rattle.flow_pair.proofs.ChangeLaws.{IsAssigning, assigning_more}
use Rattle.flow_pair.proofs.round.assign_region.Goals as goal

pub loop-i-preserved : goal.loop-i-preserved
loop-i-preserved c =
    let p = c.args.p.now in
    let now = c.loop-i.p in
    let vs = c.args.region.now in
    let blocks = c.args.blocks.now in
    let i = c.loop-i.i in
    let long = c.blocks-blocks.ensures.parted.partition.vertices ∙ ap vertex_count c.requires.belongs in
    let inside : All (λ v. v < length p.blocks) vs = subst (λ n. All (λ v. v < n) vs) (sym long) c.requires.vertices in
    let next = slice_set now.blocks (slice_index vs i) (slice_index blocks i) in
    record {
      same = same_step p now c.reassign.new.p next c.loop-i.invariant.same c.in_ok-reassign.ensures.partition;
      assigning =
          subst (λ x. IsAssigning c.args.h.now p.blocks vs blocks (i + 1) x c.reassign.new.moves.items)
          (sym (ap (λ (x : Parted). x.blocks) c.in_ok-reassign.ensures.partition))
          (assigning_more c.args.h.now p.blocks vs blocks i now.blocks c.loop-i.moves.items c.reassign.new.moves.items c.loop-i-test.true c.requires.count
          c.requires.rising inside c.in_ok-reassign.ensures.moves c.loop-i.invariant.assigning);
    }
