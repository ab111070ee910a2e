use Rattle.std.proofs.Common.{◌∙◌, ◌<◌, ◌^◌, [], ap, subst, sym, arith}
use Rattle.std.proofs.lemmas.List.{get_or_read}
use Rattle.hg_defs.specs.Hypergraph.{Net, Hyper, total_net_weight}
use Rattle.hg_defs.proofs.SumLaws.{total_at-le}
use Rattle.hg_base.proofs.FlatLaws.{below_nets, net_of-flat}
use Rattle.hg_base.proofs.hyper.FlatHyper.net_weight.Goals as goal

pub index-requires : goal.index-requires
index-requires c =
    let h = c.self.inside in
    let is = ap (λ (x : Hyper). x.nets) c.self.view_is in
    let below = below_nets c.args.self.now h.starts.items h.net_weights.items h.pins.items is c.args.e c.requires in
    omega arith

pub returns-clause-value : goal.returns-clause-value
returns-clause-value c =
    let h = c.self.inside in
    let x = c.args.self.now in
    let is = ap (λ (x : Hyper). x.nets) c.self.view_is in
    let below = below_nets x h.starts.items h.net_weights.items h.pins.items is c.args.e c.requires in
    let net = net_of-flat x h.starts.items h.net_weights.items h.pins.items is c.args.e c.requires in
    get_or_read h.net_weights.items _ _ below c.index.ensures 0 ∙ sym (ap (λ (n : Net). n.weight) net)

pub returns-clause-bound : goal.returns-clause-bound
returns-clause-bound c =
    let x = c.args.self.now in
    let all = subst (λ (x : Hyper). total_net_weight x < 2 ^ 54) c.self.view_is c.self.invariant.1.bounds.net_weight in
    let most = total_at-le (λ (e : Net). e.weight) x.nets c.args.e (record { weight = 0; pins = [] }) c.requires in
    let is = returns-clause-value c in
    omega arith
