-- There are as many nets as the hypergraph has, over few clusters.
use Rattle.std.proofs.Common.{◌≤◌, ◌^◌, sym, subst, ap, ◌∙◌}
use Rattle.hg_defs.specs.Hypergraph.{vertex_count, net_count}
use Rattle.contract_nets.proofs.ImageLaws.{count_over, vertices_over}
use Rattle.contract_nets.proofs.images.Images.nets.Goals as goal

pub returns : goal.returns
returns c =
    let s = c.self.inside in
    record {
      count = c.nets.ensures.count ∙ sym (count_over s.h.now s.clusters.value.now) ∙ ap (λ x. net_count x) c.self.view_is;
      few = subst (λ x. vertex_count x ≤ 2 ^ 22) c.self.view_is
          (subst (λ n. n ≤ 2 ^ 22) (sym (vertices_over s.h.now s.clusters.value.now)) c.self.invariant.few);
    }
