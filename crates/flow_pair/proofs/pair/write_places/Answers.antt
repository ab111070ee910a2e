use Rattle.std.proofs.Common.{◌<◌, ◌∙◌, All, length-set, slice_index, sym, subst}
use Rattle.flow_pair.proofs.RegionLaws.{place_next}
use Rattle.flow_pair.proofs.pair.write_places.Goals as goal

pub loop-i-preserved : goal.loop-i-preserved
loop-i-preserved c =
    let region = c.args.region.now in
    let i = c.loop-i.invariant in
    record {
      long = length-set c.loop-i.places (slice_index region c.loop-i.i) c.loop-i.i ∙ i.long;
      placed = place_next region c.loop-i.places c.loop-i.i c.requires.rising
          (subst (λ n. All (λ v. v < n) region) (sym i.long) c.requires.vertices) c.loop-i-test.true i.placed;
    }
