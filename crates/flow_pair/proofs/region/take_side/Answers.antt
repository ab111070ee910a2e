use Rattle.std.proofs.Common.{[], ◌++◌, ◌≡◌, ℕ, List, ◌<◌, ◌-◌, ◌∙◌, All, sym, ap, ap₂, subst, arith}
use Rattle.std.specs.List.{flat_map}
use Rattle.std.specs.Ordering.{nat_cmp}
use Rattle.hg_defs.specs.Hypergraph.{Hyper, IsHypergraph, vertex_count, net_count}
use Rattle.hg_defs.specs.Partition.{load}
use Rattle.hg_defs.specs.Sorting.{set_of}
use Rattle.round_log.specs.Rounds.{is_near, side}
use Rattle.flow_pair.specs.Sides.{free_pins}
use Rattle.flow_pair.proofs.FormLaws.{side_taken, side_none, side_near}
use Rattle.flow_pair.proofs.NetLaws.{touching_all, kept_below, near_listed}
use Rattle.flow_pair.proofs.region.take_side.Goals as goal
use Rattle.flow_pair.proofs.region.take_side.Goals.{then-scan_pays+in_ok-take_scanned, else-scan_pays+in_ok-take_listed}

pub free_on-requires-clause-nets : goal.free_on-requires-clause-nets
free_on-requires-clause-nets c =
    let h = c.args.h.now in
    subst (All (λ e. e < net_count h)) (sym c.requires.nets) (touching_all h c.args.p.now.blocks c.args.from c.args.to)

pub take_all-requires : goal.take_all-requires
take_all-requires c =
    let h = c.args.h.now in
    let p = c.args.p.now.blocks in
    let sound = subst IsHypergraph c.requires.belongs c.blocks-blocks.ensures.parted.sound in
    let near = c.as_slice.ensures.value ∙ c.in_ok-near.ensures.list
    ∙ ap₂ (λ q es. set_of nat_cmp (flat_map (free_pins h q c.args.from) es)) c.blocks-blocks.ensures.value c.requires.nets
    ∙ near_listed h p c.args.from c.args.to sound in
    subst (All (λ v. v < vertex_count h)) (sym near) (kept_below (is_near h p c.args.from c.args.to) (vertex_count h))

pub returns-then-room-least-clause-side : goal.returns-then-room-least-clause-side
returns-then-room-least-clause-side c =
    let p = c.args.p.now.blocks in
    let room : c.limit.result - c.weight.result ≡ c.args.p.now.limit - load c.args.h.now p c.args.to =
    (let a = c.limit.ensures in let b = c.weight.ensures in let d = ap (λ (x : Hyper). load x p c.args.to) c.requires.belongs in omega arith) in
    let none : c.new-list.result.items ≡ [] = search in
    side_none c.args.h.now c.args.p.now.limit p c.args.from c.args.to (c.limit.result - c.weight.result) c.args.least c.new-list.result.items c.requires.least
    room c.if-room-least.true ∙ ap (λ (xs : List ℕ). xs ++ side c.args.h.now c.args.p.now.limit p c.args.from c.args.to) none

pub returns-then-left-least-clause-side : goal.returns-then-left-least-clause-side
returns-then-left-least-clause-side c =
    let h = c.args.h.now in
    let p = c.args.p.now.blocks in
    let sound = subst IsHypergraph c.requires.belongs c.blocks-blocks.ensures.parted.sound in
    let near = c.in_ok-near.ensures.list
    ∙ ap₂ (λ q es. set_of nat_cmp (flat_map (free_pins h q c.args.from) es)) c.blocks-blocks.ensures.value c.requires.nets
    ∙ near_listed h p c.args.from c.args.to sound in
    let room : c.limit.result - c.weight.result ≡ c.args.p.now.limit - load h p c.args.to =
    (let a = c.limit.ensures in let b = c.weight.ensures in let d = ap (λ (x : Hyper). load x p c.args.to) c.requires.belongs in omega arith) in
    let none : c.new-list.result.items ≡ [] = search in
    side_near h c.args.p.now.limit p c.args.from c.args.to (c.limit.result - c.weight.result) c.in_ok-left.left c.args.least c.as_slice.result.now
    c.new-list.result.items c.take_all.new.list.items c.requires.least (c.as_slice.ensures.value ∙ near) room c.in_ok-left.ensures c.if-left-least.true
    ∙ ap (λ (xs : List ℕ). xs ++ side h c.args.p.now.limit p c.args.from c.args.to) none

pub scan_pays-requires : goal.scan_pays-requires
scan_pays-requires c =
    let h = c.args.h.now in
    let p = c.args.p.now.blocks in
    let sound = subst IsHypergraph c.requires.belongs c.blocks-blocks.ensures.parted.sound in
    let near = c.in_ok-near.ensures.list
    ∙ ap₂ (λ q es. set_of nat_cmp (flat_map (free_pins h q c.args.from) es)) c.blocks-blocks.ensures.value c.requires.nets
    ∙ near_listed h p c.args.from c.args.to sound in
    subst (All (λ v. v < vertex_count h)) (sym (c.as_slice-near.ensures.value ∙ near)) (kept_below (is_near h p c.args.from c.args.to) (vertex_count h))

pub take_scanned-requires-clause-near : goal.take_scanned-requires-clause-near
take_scanned-requires-clause-near c =
    let h = c.args.h.now in
    let p = c.args.p.now.blocks in
    let sound = subst IsHypergraph c.requires.belongs c.blocks-blocks.ensures.parted.sound in
    let near = c.in_ok-near.ensures.list
    ∙ ap₂ (λ q es. set_of nat_cmp (flat_map (free_pins h q c.args.from) es)) c.blocks-blocks.ensures.value c.requires.nets
    ∙ near_listed h p c.args.from c.args.to sound in
    c.as_slice-near.ensures.value ∙ near

pub take_listed-requires-clause-near : goal.take_listed-requires-clause-near
take_listed-requires-clause-near c =
    let h = c.args.h.now in
    let p = c.args.p.now.blocks in
    let sound = subst IsHypergraph c.requires.belongs c.blocks-blocks.ensures.parted.sound in
    let near = c.in_ok-near.ensures.list
    ∙ ap₂ (λ q es. set_of nat_cmp (flat_map (free_pins h q c.args.from) es)) c.blocks-blocks.ensures.value c.requires.nets
    ∙ near_listed h p c.args.from c.args.to sound in
    c.as_slice-near.ensures.value ∙ near

pub returns-clause-side : goal.returns-clause-side
returns-clause-side c =
    let h = c.args.h.now in
    let p = c.args.p.now.blocks in
    let sound = subst IsHypergraph c.requires.belongs c.blocks-blocks.ensures.parted.sound in
    let near = c.in_ok-near.ensures.list
    ∙ ap₂ (λ q es. set_of nat_cmp (flat_map (free_pins h q c.args.from) es)) c.blocks-blocks.ensures.value c.requires.nets
    ∙ near_listed h p c.args.from c.args.to sound in
    let room : c.limit.result - c.weight.result ≡ c.args.p.now.limit - load h p c.args.to =
    (let a = c.limit.ensures in let b = c.weight.ensures in let d = ap (λ (x : Hyper). load x p c.args.to) c.requires.belongs in omega arith) in
    let ends = side_taken h c.args.p.now.limit p c.args.from c.args.to (c.limit.result - c.weight.result) c.in_ok-left.left c.as_slice.result.now
    c.new-list.result.items c.take_all.new.list.items c.if-scan_pays.list.items (c.as_slice.ensures.value ∙ near) room c.in_ok-left.ensures in
    let none : c.new-list.result.items ≡ [] = search in
    let last = ap (λ (xs : List ℕ). xs ++ side h c.args.p.now.limit p c.args.from c.args.to) none in
    elim c.if-scan_pays.branch [
      | then-scan_pays+in_ok-take_scanned w ↦ ends (ap (λ list. list.items) w.list-is ∙ w.in_ok-take_scanned.ensures.next) ∙ last
      | else-scan_pays+in_ok-take_listed w ↦ ends (ap (λ list. list.items) w.list-is ∙ w.in_ok-take_listed.ensures.next) ∙ last
    ]
