use Rattle.std.proofs.Common.{[], ◌+◌, length, All, ap, subst, sym, arith}
use Rattle.std.proofs.lemmas.List.{get_or_read}
use Rattle.hg_defs.specs.Hypergraph.{Net, Hyper, vertex_count, IsNet}
use Rattle.hg_base.proofs.FlatLaws.{below_nets, net_of-flat}
use Rattle.hg_base.proofs.hyper.FlatHyper.pins.Goals as goal

pub index-requires : goal.index-requires
index-requires c =
    let h = c.self.inside in
    let is = ap (λ (x : Hyper). x.nets) c.self.view_is in
    let below = below_nets c.args.self.now h.starts.items h.net_weights.items h.pins.items is c.args.e c.requires in
    let ends = c.self.invariant.0.ends in
    omega arith

pub index-requires-2 : goal.index-requires-2
index-requires-2 c =
    let h = c.self.inside in
    let is = ap (λ (x : Hyper). x.nets) c.self.view_is in
    let below = below_nets c.args.self.now h.starts.items h.net_weights.items h.pins.items is c.args.e c.requires in
    let ends = c.self.invariant.0.ends in
    omega arith

pub slice_bounds-result-count : goal.slice_bounds-result-count
slice_bounds-result-count c =
    let h = c.self.inside in
    let is = ap (λ (x : Hyper). x.nets) c.self.view_is in
    let below = below_nets c.args.self.now h.starts.items h.net_weights.items h.pins.items is c.args.e c.requires in
    let ends = c.self.invariant.0.ends in
    let first = get_or_read h.starts.items _ _ (omega arith) c.index.ensures 0 in
    let second = get_or_read h.starts.items _ _ (omega arith) c.index-2.ensures 0 in
    let rising = c.self.invariant.0.rising c.args.e below in
    omega arith

pub slice_bounds-result-start : goal.slice_bounds-result-start
slice_bounds-result-start c =
    let h = c.self.inside in
    let is = ap (λ (x : Hyper). x.nets) c.self.view_is in
    let below = below_nets c.args.self.now h.starts.items h.net_weights.items h.pins.items is c.args.e c.requires in
    let ends = c.self.invariant.0.ends in
    let first = get_or_read h.starts.items _ _ (omega arith) c.index.ensures 0 in
    let second = get_or_read h.starts.items _ _ (omega arith) c.index-2.ensures 0 in
    let rising = c.self.invariant.0.rising c.args.e below in
    omega arith

pub slice_bounds-result-end : goal.slice_bounds-result-end
slice_bounds-result-end c =
    let h = c.self.inside in
    let is = ap (λ (x : Hyper). x.nets) c.self.view_is in
    let below = below_nets c.args.self.now h.starts.items h.net_weights.items h.pins.items is c.args.e c.requires in
    let ends = c.self.invariant.0.ends in
    let second = get_or_read h.starts.items _ _ (omega arith) c.index-2.ensures 0 in
    let within = c.self.invariant.0.within (c.args.e + 1) (omega arith) in
    let all = ap length c.deref.ensures.value in
    omega arith

pub returns-clause-value : goal.returns-clause-value
returns-clause-value c =
    let h = c.self.inside in
    let x = c.args.self.now in
    let is = ap (λ (x : Hyper). x.nets) c.self.view_is in
    let below = below_nets x h.starts.items h.net_weights.items h.pins.items is c.args.e c.requires in
    let ends = c.self.invariant.0.ends in
    let first = get_or_read h.starts.items _ _ (omega arith) c.index.ensures 0 in
    let second = get_or_read h.starts.items _ _ (omega arith) c.index-2.ensures 0 in
    let net = net_of-flat x h.starts.items h.net_weights.items h.pins.items is c.args.e c.requires in
    rw (first, second, c.deref.ensures.value) (sym (ap (λ (n : Net). n.pins) net))

pub returns-clause-rising : goal.returns-clause-rising
returns-clause-rising c =
    let x = c.args.self.now in
    let sound = subst (λ (x : Hyper). All (IsNet (vertex_count x)) x.nets) c.self.view_is c.self.invariant.1.sound.nets in
    rw (returns-clause-value c) (sound c.args.e (record { weight = 0; pins = [] }) c.requires).rising

pub returns-clause-below : goal.returns-clause-below
returns-clause-below c =
    let x = c.args.self.now in
    let sound = subst (λ (x : Hyper). All (IsNet (vertex_count x)) x.nets) c.self.view_is c.self.invariant.1.sound.nets in
    rw (returns-clause-value c) (sound c.args.e (record { weight = 0; pins = [] }) c.requires).pins
