use Rattle.std.proofs.Common.{ℕ, ◌+◌, List, [], All, Contains, take, slice_index_or, subst, arith}
use Rattle.std.proofs.lemmas.List.{take_all}
use Rattle.std.proofs.lemmas.List.Elements.{All-nil, All-more, All-weaker}
use Rattle.hg_defs.specs.Partition.{block_of}
use Rattle.flow_pair.proofs.CutNetLaws.{keep_none, keep_more}
use Rattle.flow_pair.proofs.cut_lists.note_all.Goals as goal

pub loop-v-init : goal.loop-v-init
loop-v-init c = record {
  kept = λ m l. keep_none m c.args.lists.now.items;
  noted = All-nil (λ (v : ℕ). Contains (slice_index_or c.args.lists.now.items (block_of c.args.blocks.now v) []) c.args.e);
}

pub loop-v-preserved : goal.loop-v-preserved
loop-v-preserved c =
    let pins = c.args.pins.now in
    let was : List (List ℕ) = c.loop-v.lists.items in
    let now : List (List ℕ) = c.note.new.lists.items in
    let step = c.in_ok-note.ensures.kept (c.args.e + 1) (omega arith) in
    record {
      kept = λ m l. keep_more m c.args.lists.now.items was now (c.loop-v.invariant.kept m l) (c.in_ok-note.ensures.kept m l);
      noted = All-more (λ (v : ℕ). Contains (slice_index_or now (block_of c.args.blocks.now v) []) c.args.e) pins c.loop-v.v-index 0 c.loop-v-test.true
          (All-weaker (λ (v : ℕ). Contains (slice_index_or was (block_of c.args.blocks.now v) []) c.args.e)
          (λ (v : ℕ). Contains (slice_index_or now (block_of c.args.blocks.now v) []) c.args.e)
          (λ v x. step.kept (block_of c.args.blocks.now v) c.args.e x) (take c.loop-v.v-index pins) c.loop-v.invariant.noted)
          c.in_ok-note.ensures.noted;
    }

pub returns-clause-noted : goal.returns-clause-noted
returns-clause-noted c =
    subst (All (λ (v : ℕ). Contains (slice_index_or c.loop-v.lists.items (block_of c.args.blocks.now v) []) c.args.e))
    (take_all c.loop-v.v-index c.args.pins.now c.loop-v-test.false) c.loop-v.invariant.noted
