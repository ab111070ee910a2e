use Rattle.std.proofs.Common.{◌∙◌, ◌<◌, length, ap, sym, arith}
use Rattle.std.proofs.lemmas.List.{get_or_read, length-set}
use Rattle.hg_defs.specs.Hypergraph.{Hyper}
use Rattle.hg_defs.proofs.SumLaws.{total_at-le, total-set}
use Rattle.hg_base.proofs.hyper.FlatHyper.set_vertex_weight.Goals as goal

pub overflow_sub-self : goal.overflow_sub-self
overflow_sub-self c =
    let h = c.self.inside in
    let ws = ap (λ (x : Hyper). x.weights) c.self.view_is in
    let below : c.args.v < length h.vertex_weights.items = (let l = ap length ws in omega (arith, c.requires.vertex)) in
    let read = get_or_read h.vertex_weights.items _ _ below c.index.ensures 0 in
    let most = total_at-le (λ w. w) h.vertex_weights.items c.args.v 0 below in
    let sum = c.self.invariant.1.all_weight in
    omega arith

pub invariant_of-self : goal.invariant_of-self
invariant_of-self c =
    let h = c.self.inside in
    let ws = ap (λ (x : Hyper). x.weights) c.self.view_is in
    let below : c.args.v < length h.vertex_weights.items = (let l = ap length ws in omega (arith, c.requires.vertex)) in
    let read = get_or_read h.vertex_weights.items _ _ below c.index.ensures 0 in
    let most = total_at-le (λ w. w) h.vertex_weights.items c.args.v 0 below in
    let sum = c.self.invariant.1.all_weight in
    let changed = total-set (λ w. w) h.vertex_weights.items c.args.v c.args.weight 0 below in
    let same = length-set h.vertex_weights.items c.args.v c.args.weight in
    let old = c.self.invariant.1 in
    let fits = rw (← c.self.view_is) at c.requires.fits in (
      c.self.invariant.0,
      record {
        sound = record { fixes = old.sound.fixes ∙ sym same; fixed = old.sound.fixed; nets = rw same old.sound.nets };
        bounds = record {
          vertices = omega (arith, old.bounds.vertices);
          nets = old.bounds.nets;
          pins = old.bounds.pins;
          weight = omega arith;
          net_weight = old.bounds.net_weight;
          pin_weight = old.bounds.pin_weight;
        };
        all_pins = old.all_pins;
        all_weight = omega arith;
      },
    )

pub returns-clause-total : goal.returns-clause-total
returns-clause-total c =
    let h = c.self.inside in
    let ws = ap (λ (x : Hyper). x.weights) c.self.view_is in
    let below : c.args.v < length h.vertex_weights.items = (let l = ap length ws in omega (arith, c.requires.vertex)) in
    rw (← c.self.view_is) (total-set (λ w. w) h.vertex_weights.items c.args.v c.args.weight 0 below)
