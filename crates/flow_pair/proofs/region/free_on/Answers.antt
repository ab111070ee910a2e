use Rattle.std.proofs.Common.{◌≡◌, ℕ, ◌++◌, [], ◌<◌, ◌∙◌, All, filter, length, sym, ap, subst, arith}
use Rattle.std.proofs.lemmas.List.Elements.{All-append, All-filter, All-weaker}
use Rattle.std.proofs.lemmas.Result.{IfOk-weaker}
use Rattle.std.specs.Ordering.{nat_cmp}
use Rattle.hg_defs.specs.Hypergraph.{vertex_count}
use Rattle.hg_defs.specs.Sorting.{set_of}
use Rattle.flow_pair.specs.Sides.{is_free_in, free_pins}
use Rattle.flow_pair.proofs.MemberLaws.{flat_map_next}
use Rattle.flow_pair.proofs.NetLaws.{all_of_set}
use Rattle.flow_pair.proofs.region.free_on.Goals as goal

pub loop-e-preserved : goal.loop-e-preserved
loop-e-preserved c =
    let h = c.args.h.now in
    let free = is_free_in h c.args.blocks.now c.args.block in
    let P = (λ (v : ℕ). v < vertex_count h) in (
      flat_map_next (free_pins h c.args.blocks.now c.args.block) c.args.nets.now c.loop-e.e-index 0 [] c.loop-e.list.items
          c.add_free.new.list.items c.loop-e-test.true
          (c.in_ok-add_free.ensures ∙ ap (λ pins. c.loop-e.list.items ++ filter free pins) c.pins.ensures.value) c.loop-e.invariant.0,
      subst (All P) (sym c.in_ok-add_free.ensures)
          (All-append P c.loop-e.list.items (filter free c.pins.result.now) c.loop-e.invariant.1 (All-filter free P c.pins.result.now c.pins.ensures.below)),
    )

pub distinct_of_many-requires : goal.distinct_of_many-requires
distinct_of_many-requires c =
    All-weaker (λ v. v < vertex_count c.args.h.now) (λ v. v < length c.args.spots.now) (λ v l. let s = c.requires.spots in omega arith) c.loop-e.list.items
    c.loop-e.invariant.1

pub returns-clause-below : goal.returns-clause-below
returns-clause-below c =
    let P = (λ (v : ℕ). v < vertex_count c.args.h.now) in
    IfOk-weaker c.distinct_of_many.result (λ list. list.items ≡ set_of nat_cmp c.loop-e.list.items) (λ list. All P list.items)
    (λ list is. subst (All P) (sym is) (all_of_set P c.loop-e.list.items c.loop-e.invariant.1)) c.distinct_of_many.ensures.set
