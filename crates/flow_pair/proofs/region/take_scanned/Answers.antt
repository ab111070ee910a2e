use Rattle.std.proofs.Common.{◌<◌, ◌++◌, ◌∙◌, ℕ, List, All, filter, length, refl, sym, ap, ap₂, subst, arith}
use Rattle.std.specs.List.Sorted.{IsStrictlyIncreasing}
use Rattle.std.proofs.lemmas.List.Elements.{All-weaker}
use Rattle.hg_defs.specs.Hypergraph.{IsHypergraph, vertices, vertex_count, net_count}
use Rattle.round_log.specs.Rounds.{is_near, taken}
use Rattle.flow_pair.specs.Sides.{is_reached}
use Rattle.flow_pair.proofs.NetLaws.{small_each, kept_below, kept_rises}
use Rattle.flow_pair.proofs.ScanLaws.{reached_are_next}
use Rattle.flow_pair.proofs.region.take_scanned.Goals as goal

pub all_small_nets_of-requires : goal.all_small_nets_of-requires
all_small_nets_of-requires c =
    let h = c.args.h.now in
    subst (All (λ v. v < vertex_count h)) (sym c.requires.near) (kept_below (is_near h c.args.p.now.blocks c.args.from c.args.to) (vertex_count h))

pub note_places-requires : goal.note_places-requires
note_places-requires c =
    let h = c.args.h.now in
    All-weaker (λ e. e < net_count h) (λ e. e < length c.args.spots.now) (λ e l. let s = c.requires.spots.1 in omega arith) c.as_slice.result.now
    (subst (All (λ e. e < net_count h)) (sym (c.as_slice.ensures.value ∙ c.in_ok-small.ensures)) (small_each h c.args.near.now))

pub take_reached-requires-clause-near : goal.take_reached-requires-clause-near
take_reached-requires-clause-near c =
    let h = c.args.h.now in
    subst IsStrictlyIncreasing (sym c.requires.near) (kept_rises (is_near h c.args.p.now.blocks c.args.from c.args.to) (vertex_count h))

pub returns-clause-next : goal.returns-clause-next
returns-clause-next c =
    let h = c.args.h.now in
    let p = c.args.p.now.blocks in
    let near = c.args.near.now in
    let sound = subst IsHypergraph c.requires.belongs c.blocks-2.ensures.parted.sound in
    let small = c.as_slice-small.ensures.value ∙ c.in_ok-small.ensures in
    c.in_ok-take_reached.ensures
    ∙ ap₂ (λ (q : List ℕ) (es : List ℕ). c.args.list.now.items ++ taken h c.args.room (filter (is_reached h q c.args.from near es) (vertices h)))
    c.blocks-2.ensures.value small
    ∙ ap (λ (xs : List ℕ). c.args.list.now.items ++ taken h c.args.room xs) (reached_are_next h p c.args.from c.args.to sound near _ c.requires.near refl)
