use Rattle.std.proofs.Common.{◌-◌, ◌<◌, ℕ, List, length, get_or, set, ap, subst, arith, length-set, ◌∙◌}
use Rattle.std.proofs.lemmas.List.{get_or_default}
use Rattle.hg_defs.specs.Hypergraph.{Hyper}
use Rattle.hg_defs.specs.Partition.{IsPartition}
use Rattle.pin_plain.specs.Parted.{IsLoaded}
use Rattle.det_sync.specs.Wishes.{Wish}
use Rattle.det_sync.proofs.GrantLaws.{wish_inside, granted_first, granted_refused, granted_made, goes_below, comes_below}
use Rattle.det_sync.proofs.GrantLaws.{weight_there, weight_joins, load_there, loads_written}
use Rattle.det_sync.proofs.rounds.admit.Goals as goal

abbrev none : Wish
none = (record { 0 = 0 }, 0, 0)

pub wishes-init : goal.wishes-init
wishes-init c =
    let p = c.args.p.now in
    granted_first c.args.h.now p.k p.limit p.blocks c.args.wishes.now c.new-moves.result.items c.in_ok-loads.loads.items c.requires.wishes
    c.new-moves.ensures.items
    (subst (λ (x : Hyper). IsLoaded x p.k p.blocks c.in_ok-loads.loads.items) c.requires.belongs c.in_ok-loads.ensures)

pub vertex_weight-weight-requires : goal.vertex_weight-weight-requires
vertex_weight-weight-requires c =
    let h = c.args.h.now in
    let p = c.args.p.now in
    let ws = c.args.wishes.now in
    let i = c.wishes.v-index in
    let w = get_or ws i none in
    let low = c.wishes-test.true in
    let here = get_or_default ws i w none low in
    let inside = wish_inside h p.k p.limit p.blocks ws i w c.requires.wishes low here in
    inside

pub index-requires : goal.index-requires
index-requires c =
    let h = c.args.h.now in
    let p = c.args.p.now in
    let ws = c.args.wishes.now in
    let i = c.wishes.v-index in
    let w = get_or ws i none in
    let low = c.wishes-test.true in
    let here = get_or_default ws i w none low in
    let inside = wish_inside h p.k p.limit p.blocks ws i w c.requires.wishes low here in
    let whole = subst (λ (x : Hyper). IsPartition x p.k p.blocks) c.requires.belongs c.blocks-blocks.ensures.parted.partition in
    let g = c.wishes.invariant in
    let below = goes_below h p.k p.limit p.blocks ws i c.wishes.moves.items c.wishes.loads.items g low w here
    (c.requires.wishes.each i none low) inside whole in
    let all = g.loaded.all in
    omega (arith, c.wishes.loads.ok.0)

pub overflow_add-index : goal.overflow_add-index
overflow_add-index c =
    let h = c.args.h.now in
    let p = c.args.p.now in
    let ws = c.args.wishes.now in
    let i = c.wishes.v-index in
    let w = get_or ws i none in
    let low = c.wishes-test.true in
    let here = get_or_default ws i w none low in
    let inside = wish_inside h p.k p.limit p.blocks ws i w c.requires.wishes low here in
    let whole = subst (λ (x : Hyper). IsPartition x p.k p.blocks) c.requires.belongs c.blocks-blocks.ensures.parted.partition in
    let g = c.wishes.invariant in
    let below = goes_below h p.k p.limit p.blocks ws i c.wishes.moves.items c.wishes.loads.items g low w here
    (c.requires.wishes.each i none low) inside whole in
    let all = g.loaded.all in
    let there : w.2 < length c.wishes.loads.items = omega arith in
    let load = c.index.ensures ∙ get_or_default c.wishes.loads.items w.2 c.index.result.now 0 there in
    let small = load_there h p.k p.limit p.blocks ws i c.wishes.moves.items c.wishes.loads.items g low w here
    (c.requires.wishes.each i none low) inside whole c.vertices-vertices.ensures.bounds in
    let light = c.vertex_weight-weight.ensures.bound in
    omega arith

pub wishes-preserved-then-index-weight : goal.wishes-preserved-then-index-weight
wishes-preserved-then-index-weight c =
    let h = c.args.h.now in
    let p = c.args.p.now in
    let ws = c.args.wishes.now in
    let i = c.wishes.v-index in
    let w = get_or ws i none in
    let low = c.wishes-test.true in
    let here = get_or_default ws i w none low in
    let inside = wish_inside h p.k p.limit p.blocks ws i w c.requires.wishes low here in
    let whole = subst (λ (x : Hyper). IsPartition x p.k p.blocks) c.requires.belongs c.blocks-blocks.ensures.parted.partition in
    let g = c.wishes.invariant in
    let below = goes_below h p.k p.limit p.blocks ws i c.wishes.moves.items c.wishes.loads.items g low w here
    (c.requires.wishes.each i none low) inside whole in
    let all = g.loaded.all in
    let there : w.2 < length c.wishes.loads.items = omega arith in
    let load = c.index.ensures ∙ get_or_default c.wishes.loads.items w.2 c.index.result.now 0 there in
    let weighs = c.vertex_weight-weight.ensures.value in
    let most = c.limit.ensures in
    granted_refused h p.k p.limit p.blocks ws i c.wishes.moves.items c.wishes.loads.items g low w here
    (c.requires.wishes.each i none low) inside whole (omega arith)

pub bounds-blocks-v : goal.bounds-blocks-v
bounds-blocks-v c =
    let h = c.args.h.now in
    let p = c.args.p.now in
    let ws = c.args.wishes.now in
    let i = c.wishes.v-index in
    let w = get_or ws i none in
    let low = c.wishes-test.true in
    let here = get_or_default ws i w none low in
    let inside = wish_inside h p.k p.limit p.blocks ws i w c.requires.wishes low here in
    let whole = subst (λ (x : Hyper). IsPartition x p.k p.blocks) c.requires.belongs c.blocks-blocks.ensures.parted.partition in
    let g = c.wishes.invariant in
    let long = ap length c.blocks-blocks.ensures.value in
    let n = whole.vertices in
    omega arith

pub overflow_sub-index_mut : goal.overflow_sub-index_mut
overflow_sub-index_mut c =
    let h = c.args.h.now in
    let p = c.args.p.now in
    let ws = c.args.wishes.now in
    let i = c.wishes.v-index in
    let w = get_or ws i none in
    let low = c.wishes-test.true in
    let here = get_or_default ws i w none low in
    let inside = wish_inside h p.k p.limit p.blocks ws i w c.requires.wishes low here in
    let whole = subst (λ (x : Hyper). IsPartition x p.k p.blocks) c.requires.belongs c.blocks-blocks.ensures.parted.partition in
    let g = c.wishes.invariant in
    let from = get_or c.blocks-blocks.result.now w.1 0 in
    let is = ap (λ (bs : List ℕ). get_or bs w.1 0) c.blocks-blocks.ensures.value in
    let held = weight_there h p.k p.limit p.blocks ws i c.wishes.moves.items c.wishes.loads.items g low w here
    (c.requires.wishes.each i none low) inside whole from is in
    let under = comes_below h p.k p.limit p.blocks ws i c.wishes.moves.items c.wishes.loads.items g low w here
    (c.requires.wishes.each i none low) inside whole from is in
    let all = g.loaded.all in
    let inner : from < length c.wishes.loads.items = omega arith in
    let left = c.index_mut.ensures.value ∙ get_or_default c.wishes.loads.items from c.index_mut.result.now 0 inner in
    let weighs = c.vertex_weight-weight.ensures.value in
    omega arith

pub index_mut-requires-in-wishes : goal.index_mut-requires-in-wishes
index_mut-requires-in-wishes c =
    let h = c.args.h.now in
    let p = c.args.p.now in
    let ws = c.args.wishes.now in
    let i = c.wishes.v-index in
    let w = get_or ws i none in
    let low = c.wishes-test.true in
    let here = get_or_default ws i w none low in
    let inside = wish_inside h p.k p.limit p.blocks ws i w c.requires.wishes low here in
    let whole = subst (λ (x : Hyper). IsPartition x p.k p.blocks) c.requires.belongs c.blocks-blocks.ensures.parted.partition in
    let g = c.wishes.invariant in
    let below = goes_below h p.k p.limit p.blocks ws i c.wishes.moves.items c.wishes.loads.items g low w here
    (c.requires.wishes.each i none low) inside whole in
    let all = g.loaded.all in
    omega (arith, c.wishes.loads.ok.0)

pub overflow_add-index_mut : goal.overflow_add-index_mut
overflow_add-index_mut c =
    let h = c.args.h.now in
    let p = c.args.p.now in
    let ws = c.args.wishes.now in
    let i = c.wishes.v-index in
    let w = get_or ws i none in
    let low = c.wishes-test.true in
    let here = get_or_default ws i w none low in
    let inside = wish_inside h p.k p.limit p.blocks ws i w c.requires.wishes low here in
    let whole = subst (λ (x : Hyper). IsPartition x p.k p.blocks) c.requires.belongs c.blocks-blocks.ensures.parted.partition in
    let g = c.wishes.invariant in
    let from = get_or c.blocks-blocks.result.now w.1 0 in
    let is = ap (λ (bs : List ℕ). get_or bs w.1 0) c.blocks-blocks.ensures.value in
    let joins = weight_joins h p.k p.limit p.blocks ws i c.wishes.moves.items c.wishes.loads.items g low w here
    (c.requires.wishes.each i none low) inside whole from is c.vertices-vertices.ensures.bounds in
    let under = comes_below h p.k p.limit p.blocks ws i c.wishes.moves.items c.wishes.loads.items g low w here
    (c.requires.wishes.each i none low) inside whole from is in
    let all = g.loaded.all in
    let inner : from < length c.wishes.loads.items = omega arith in
    let left = c.index_mut.ensures.value ∙ get_or_default c.wishes.loads.items from c.index_mut.result.now 0 inner in
    let long = length-set c.wishes.loads.items from (c.index_mut.result.now - c.vertex_weight-weight.result) in
    let goes = goes_below h p.k p.limit p.blocks ws i c.wishes.moves.items c.wishes.loads.items g low w here (c.requires.wishes.each i none low) inside whole in
    let joined = c.index_mut-in-wishes.ensures.value ∙ get_or_default (set c.wishes.loads.items from
    (c.index_mut.result.now - c.vertex_weight-weight.result)) w.2 c.index_mut-in-wishes.result.now 0 (omega arith) in
    let weighs = c.vertex_weight-weight.ensures.value in
    let same = ap (λ (a : ℕ). get_or (set c.wishes.loads.items from (a - c.vertex_weight-weight.result)) w.2 0) left in
    let light = ap (λ (a : ℕ). get_or (set c.wishes.loads.items from (get_or c.wishes.loads.items from 0 - a)) w.2 0) weighs in
    omega arith

pub wishes-preserved : goal.wishes-preserved
wishes-preserved c =
    let h = c.args.h.now in
    let p = c.args.p.now in
    let ws = c.args.wishes.now in
    let i = c.wishes.v-index in
    let w = get_or ws i none in
    let low = c.wishes-test.true in
    let here = get_or_default ws i w none low in
    let inside = wish_inside h p.k p.limit p.blocks ws i w c.requires.wishes low here in
    let whole = subst (λ (x : Hyper). IsPartition x p.k p.blocks) c.requires.belongs c.blocks-blocks.ensures.parted.partition in
    let g = c.wishes.invariant in
    let from = get_or c.blocks-blocks.result.now w.1 0 in
    let is = ap (λ (bs : List ℕ). get_or bs w.1 0) c.blocks-blocks.ensures.value in
    let below = goes_below h p.k p.limit p.blocks ws i c.wishes.moves.items c.wishes.loads.items g low w here
    (c.requires.wishes.each i none low) inside whole in
    let all = g.loaded.all in
    let there : w.2 < length c.wishes.loads.items = omega arith in
    let load = c.index.ensures ∙ get_or_default c.wishes.loads.items w.2 c.index.result.now 0 there in
    let under = comes_below h p.k p.limit p.blocks ws i c.wishes.moves.items c.wishes.loads.items g low w here
    (c.requires.wishes.each i none low) inside whole from is in
    let inner : from < length c.wishes.loads.items = omega arith in
    let left = c.index_mut.ensures.value ∙ get_or_default c.wishes.loads.items from c.index_mut.result.now 0 inner in
    let long = length-set c.wishes.loads.items from (c.index_mut.result.now - c.vertex_weight-weight.result) in
    let goes = goes_below h p.k p.limit p.blocks ws i c.wishes.moves.items c.wishes.loads.items g low w here (c.requires.wishes.each i none low) inside whole in
    let joined = c.index_mut-in-wishes.ensures.value ∙ get_or_default (set c.wishes.loads.items from
    (c.index_mut.result.now - c.vertex_weight-weight.result)) w.2 c.index_mut-in-wishes.result.now 0 (omega arith) in
    let weighs = c.vertex_weight-weight.ensures.value in
    let most = c.limit.ensures in
    granted_made h p.k p.limit p.blocks ws i c.wishes.moves.items c.wishes.loads.items g low w here
    (c.requires.wishes.each i none low) inside whole from is _ _ (omega arith) c.in_ok-push.ensures.items
    (loads_written c.wishes.loads.items from w.2 c.index_mut.result.now c.vertex_weight-weight.result c.index_mut-in-wishes.result.now _
    left weighs joined)
