use Rattle.std.proofs.Common.{◌<◌, ◌≤◌, ◌-◌, ◌&&◌, ◌∙◌, ◌++◌, ℕ, Bool, filter, ap, arith}
use Rattle.std.specs.List.{range_with_len}
use Rattle.hg_defs.specs.Hypergraph.{net_of, net_count}
use Rattle.round_log.specs.Rounds.{has_pin}
use Rattle.flow_pair.specs.Sides.{touching_nets}
use Rattle.flow_pair.proofs.MemberLaws.{range_first, range_next, range_last}
use Rattle.flow_pair.proofs.cut.touching_nets_of.Goals as goal

pub loop-e-init : goal.loop-e-init
loop-e-init c =
    let p = c.args.p.now.blocks in
    let test : ℕ → Bool = λ e. has_pin p (net_of c.args.h.now e) c.args.a && has_pin p (net_of c.args.h.now e) c.args.b in
    ap (λ xs. xs ++ filter test (range_with_len 0 (net_count c.args.h.now - 0))) c.new-nets.ensures.items ∙ range_first test (net_count c.args.h.now)

pub loop-e-preserved : goal.loop-e-preserved
loop-e-preserved c =
    let h = c.args.h.now in
    let p = c.args.p.now.blocks in
    let low : c.loop-e.e < net_count h = (let n = c.nets-e-end.ensures.count in let t = c.loop-e-test.true in omega arith) in
    range_next (λ e. has_pin p (net_of h e) c.args.a && has_pin p (net_of h e) c.args.b) (net_count h) c.loop-e.e c.touches.result c.loop-e.nets.items
    c.push_if.new.list.items (touching_nets h p c.args.a c.args.b) low c.touches.ensures c.in_ok-push_if.ensures c.loop-e.invariant

pub returns : goal.returns
returns c =
    let h = c.args.h.now in
    let p = c.args.p.now.blocks in
    let end : net_count h ≤ c.loop-e.e = (let n = c.nets-e-end.ensures.count in let t = c.loop-e-test.false in omega arith) in
    range_last (λ e. has_pin p (net_of h e) c.args.a && has_pin p (net_of h e) c.args.b) (net_count h) c.loop-e.e c.loop-e.nets.items
    (touching_nets h p c.args.a c.args.b) end c.loop-e.invariant
