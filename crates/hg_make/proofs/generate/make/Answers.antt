use Rattle.std.proofs.Common.{ℕ, List, ◌++◌, [], ◌∷◌, length, ap, sym, ◌∙◌, arith}
use Rattle.std.specs.Ordering.{nat_cmp}
use Rattle.hg_defs.specs.Hypergraph.{Hyper}
use Rattle.hg_defs.specs.Sorting.{set_of}
use Rattle.hg_make.proofs.MadeLemmas.{made_first, made_first-more, net_count-made, pin_count-made-le, net_weight-made-le, pin_weight-made-le}
use Rattle.hg_make.proofs.generate.make.Goals as goal

pub push_net-requires-clause-nets : goal.push_net-requires-clause-nets
push_net-requires-clause-nets c = omega (arith, net_count-made c.args.n c.nets.i c.nets.h c.nets.invariant)

pub push_net-requires-clause-all_pins : goal.push_net-requires-clause-all_pins
push_net-requires-clause-all_pins c =
    omega (arith, pin_count-made-le c.args.n c.nets.i c.nets.h c.nets.invariant, ap length c.pins_of.ensures.pins)

pub push_net-requires-clause-net_weight : goal.push_net-requires-clause-net_weight
push_net-requires-clause-net_weight c = omega (arith, net_weight-made-le c.args.n c.nets.i c.nets.h c.nets.invariant)

pub push_net-requires-clause-pin_weight : goal.push_net-requires-clause-pin_weight
push_net-requires-clause-pin_weight c =
    omega (arith, pin_weight-made-le c.args.n c.nets.i c.nets.h c.nets.invariant, ap length c.pins_of.ensures.pins)

pub nets-preserved : goal.nets-preserved
nets-preserved c =
    c.in_ok-push_net.ensures.ok
    ∙ ap (λ (h : Hyper). record h { nets = h.nets ++ record { weight = 1; pins = set_of nat_cmp c.pins_of.result } ∷ [] }) c.nets.invariant
    ∙ ap (λ (pins : List ℕ). record (made_first c.args.n c.nets.i)
    { nets = (made_first c.args.n c.nets.i).nets ++ record { weight = 1; pins = set_of nat_cmp pins } ∷ [] }) c.pins_of.ensures.pins
    ∙ sym (made_first-more c.args.n c.nets.i)
