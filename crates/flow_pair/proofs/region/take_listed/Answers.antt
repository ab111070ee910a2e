use Rattle.std.proofs.Common.{◌<◌, ◌++◌, ◌∙◌, ℕ, List, not, nat_eq, All, filter, length, sym, ap, ap₂, subst, arith}
use Rattle.std.proofs.lemmas.List.Elements.{All-weaker}
use Rattle.std.specs.List.{flat_map}
use Rattle.std.specs.Ordering.{nat_cmp}
use Rattle.std.specs.Set.{is_member}
use Rattle.hg_defs.specs.Hypergraph.{IsHypergraph, vertex_count, net_count}
use Rattle.hg_defs.specs.Sorting.{set_of}
use Rattle.round_log.specs.Rounds.{is_near, is_next, taken}
use Rattle.flow_pair.specs.Sides.{free_pins}
use Rattle.flow_pair.proofs.FormLaws.{taken_all}
use Rattle.flow_pair.proofs.NetLaws.{small_all, kept_below, next_listed}
use Rattle.flow_pair.proofs.region.take_listed.Goals as goal

pub small_nets_of-requires-clause-vertices : goal.small_nets_of-requires-clause-vertices
small_nets_of-requires-clause-vertices c =
    let h = c.args.h.now in
    subst (All (λ v. v < vertex_count h)) (sym c.requires.near) (kept_below (is_near h c.args.p.now.blocks c.args.from c.args.to) (vertex_count h))

pub free_on-requires-clause-nets : goal.free_on-requires-clause-nets
free_on-requires-clause-nets c =
    let h = c.args.h.now in
    subst (All (λ e. e < net_count h)) (sym (c.as_slice.ensures.value ∙ c.in_ok-small.ensures.list)) (small_all h c.args.near.now)

pub without-requires-clause-list : goal.without-requires-clause-list
without-requires-clause-list c =
    let h = c.args.h.now in
    All-weaker (λ v. v < vertex_count h) (λ v. v < length c.free_on.new.spots) (λ v l. omega arith) c.as_slice-2.result.now
    (subst (All (λ v. v < vertex_count h)) (sym c.as_slice-2.ensures.value) c.in_ok-reached.ensures.below)

pub without-requires-clause-others : goal.without-requires-clause-others
without-requires-clause-others c =
    let h = c.args.h.now in
    All-weaker (λ v. v < vertex_count h) (λ v. v < length c.free_on.new.spots) (λ v l. omega arith) c.args.near.now
    (subst (All (λ v. v < vertex_count h)) (sym c.requires.near) (kept_below (is_near h c.args.p.now.blocks c.args.from c.args.to) (vertex_count h)))

pub take_all-requires : goal.take_all-requires
take_all-requires c =
    let h = c.args.h.now in
    let p = c.args.p.now.blocks in
    let sound = subst IsHypergraph c.requires.belongs c.blocks-2.ensures.parted.sound in
    let small = c.as_slice.ensures.value ∙ c.in_ok-small.ensures.list in
    let all = c.as_slice-2.ensures.value ∙ c.in_ok-reached.ensures.list
    ∙ ap₂ (λ q es. set_of nat_cmp (flat_map (free_pins h q c.args.from) es)) c.blocks-2.ensures.value small in
    let next = c.as_slice-3.ensures.value ∙ c.in_ok-next.ensures.left ∙ ap (λ xs. filter (λ v. not (is_member nat_eq c.args.near.now v)) xs) all
    ∙ next_listed h p c.args.from c.args.to sound c.args.near.now c.requires.near in
    subst (All (λ v. v < vertex_count h)) (sym next) (kept_below (is_next h p c.args.from c.args.to) (vertex_count h))

pub returns-clause-next : goal.returns-clause-next
returns-clause-next c =
    let h = c.args.h.now in
    let p = c.args.p.now.blocks in
    let sound = subst IsHypergraph c.requires.belongs c.blocks-2.ensures.parted.sound in
    let small = c.as_slice.ensures.value ∙ c.in_ok-small.ensures.list in
    let all = c.as_slice-2.ensures.value ∙ c.in_ok-reached.ensures.list
    ∙ ap₂ (λ q es. set_of nat_cmp (flat_map (free_pins h q c.args.from) es)) c.blocks-2.ensures.value small in
    let next = c.as_slice-3.ensures.value ∙ c.in_ok-next.ensures.left ∙ ap (λ xs. filter (λ v. not (is_member nat_eq c.args.near.now v)) xs) all
    ∙ next_listed h p c.args.from c.args.to sound c.args.near.now c.requires.near in
    taken_all h c.args.room _ c.as_slice-3.result.now c.args.list.now.items c.take_all.new.list.items c.in_ok-take_all.ensures
    ∙ ap (λ (xs : List ℕ). c.args.list.now.items ++ taken h c.args.room xs) next
