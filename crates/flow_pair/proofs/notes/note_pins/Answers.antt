use Rattle.std.proofs.Common.{◌||◌, ◌&&◌, ◌++◌, ◌∙◌, Bool, ℕ, not, nat_eq, slice_index, sym, ap}
use Rattle.std.specs.Set.{is_member}
use Rattle.std.proofs.lemmas.List.Folds.{list_any_more}
use Rattle.hg_defs.specs.Partition.{block_of}
use Rattle.flow_pair.specs.ShortNetwork.{inner_nodes}
use Rattle.flow_pair.proofs.ShortArcLaws.{inner-rest}
use Rattle.flow_pair.proofs.notes.note_pins.Goals as goal

pub loop-v-preserved : goal.loop-v-preserved
loop-v-preserved c =
    let s = c.args.pair in
    let i = c.loop-v.v-index in
    let pins = c.pins-pins.result.now in
    let outside : ℕ → ℕ → Bool = λ b v. nat_eq (block_of s.blocks.now v) b && not (is_member nat_eq s.region.now v) in
    record {
      nodes = inner-rest s.region.now c.loop-v.nodes.items c.note_pin.new.nodes.items (c.args.nodes.now.items ++ inner_nodes s.region.now pins) pins i
          c.loop-v-test.true
          c.in_ok-outside.ensures.nodes c.loop-v.invariant.nodes;
      first = c.in_ok-outside.ensures.first ∙ ap (λ t. t || outside s.first (slice_index pins i)) c.loop-v.invariant.first
          ∙ sym (list_any_more (outside s.first) pins i 0 c.loop-v-test.true);
      second = c.in_ok-outside.ensures.second ∙ ap (λ t. t || outside s.second (slice_index pins i)) c.loop-v.invariant.second
          ∙ sym (list_any_more (outside s.second) pins i 0 c.loop-v-test.true);
    }
