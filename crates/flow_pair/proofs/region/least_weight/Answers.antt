use Rattle.std.proofs.Common.{◌≡◌, ◌-◌, ◌^◌, ◌<◌, ◌≤◌, min, ⊎_elim, subst, arith}
use Rattle.std.proofs.lemmas.Bool.{cases_lt}
use Rattle.std.proofs.lemmas.List.Sums.{fold_more}
use Rattle.hg_defs.specs.Hypergraph.{weight_of}
use Rattle.flow_pair.proofs.region.least_weight.Goals as goal

pub loop-v-preserved : goal.loop-v-preserved
loop-v-preserved c =
    let h = c.args.h.now in
    let v = c.loop-v.v in
    let more = fold_more min (2 ^ 64 - 1) h.weights v 0 (let a = c.vertices-v-end.ensures.count in
    let b = c.loop-v-test.true in omega arith) in
    let here = c.vertex_weight.ensures.value in
    let least = c.min-least.ensures in
    let was = c.loop-v.invariant.value in
    record {
      value = omega arith;
      bound = λ u l. ⊎_elim (λ (k : u < v). let low = c.loop-v.invariant.bound u k in omega arith)
          (λ (k : v ≤ u). let same : v ≡ u = omega arith in subst (λ x. c.min-least.result ≤ weight_of h x) same (omega arith)) (cases_lt u v);
    }
