-- Roots inside the blocks, paired there.
use Rattle.std.proofs.Common.{◌≡◌, ℕ, ◌≤◌, List, get_or, sym, ap, ◌∙◌, subst, arith}
use Rattle.std.proofs.lemmas.Result.{IfOk-weaker}
use Rattle.hg_defs.specs.Hypergraph.{Hyper, IsHypergraph, total_weight}
use Rattle.hg_defs.specs.Partition.{IsPartition}
use Rattle.hg_defs.specs.Clustering.{IsInside, cluster_cap}
use Rattle.hg_defs.specs.Numbering.{IsRooted, numbered}
use Rattle.hg_defs.specs.Pairing.{paired_inside, split_by}
use Rattle.hg_defs.proofs.PairingLaws.{split-rooted, split-blocks, paired_inside-inside}
use Rattle.coarsen.specs.Numbers.{IsByRoot}
use Rattle.coarsen.proofs.RootLaws.{by_root_inside}
use Rattle.coarsen.proofs.clustering.cluster_inside.Goals as goal

rooted_weaker : (h : Hyper) (a b : ℕ) (roots : List ℕ) → IsRooted h a roots → a ≤ b → IsRooted h b roots
rooted_weaker h a b roots r l = record {
  vertices = r.vertices;
  below = r.below;
  own = r.own;
  capped = λ u v t. (let c = r.capped u v t in omega arith);
  free = r.free;
}

module _ (h : Hyper) (pass cap : ℕ) (blocks raced roots : List ℕ) (r : IsRooted h pass raced) (l : pass ≤ cap) (split : roots ≡ split_by blocks raced) where
  split_rooted : IsRooted h cap roots
  split_rooted = subst (IsRooted h cap) (sym split) (split-rooted h cap blocks raced (rooted_weaker h pass cap raced r l))

  inside_from : (k : ℕ) (clusters : List ℕ) → IsHypergraph h → IsPartition h k blocks → clusters ≡ numbered (paired_inside h cap k blocks roots) →
      IsInside h cap blocks clusters
  inside_from k clusters sound whole made =
      subst (IsInside h cap blocks) (sym made)
      (paired_inside-inside h cap k blocks roots sound whole split_rooted
      (λ u v t. split-blocks h cap blocks raced (rooted_weaker h pass cap raced r l) u v (record {
        first = t.first;
        second = t.second;
        different = t.different;
        cluster = at u ∙ t.cluster ∙ sym (at v);
      })))
    where
      at : (u : ℕ) → get_or (split_by blocks raced) u 0 ≡ get_or roots u 0
      at u = ap (λ (rs : List ℕ). get_or rs u 0) (sym split)

pub pair_within-requires-clause-rooted : goal.pair_within-requires-clause-rooted
pair_within-requires-clause-rooted g c =
    split_rooted c.args.h.now c.pass_cap.result c.cluster_cap-cap.result c.args.blocks.now c.in_ok-raced.raced c.split_roots-roots.result.items
    c.in_ok-raced.ensures c.pass_cap.ensures
    (c.split_roots-roots.ensures ∙ ap (split_by c.args.blocks.now) c.into_vec.ensures)

pub returns-clause-inside : goal.returns-clause-inside
returns-clause-inside g c =
    let cap = c.cluster_cap-cap.ensures ∙ ap (λ (w : ℕ). cluster_cap w c.args.k) c.total_weight.ensures in
    IfOk-weaker c.pair_within.result (λ clusters. clusters ≡ numbered (paired_inside c.args.h.now c.cluster_cap-cap.result c.args.k c.args.blocks.now
    c.split_roots-roots.result.items)) (IsInside c.args.h.now (cluster_cap (total_weight c.args.h.now) c.args.k) c.args.blocks.now)
    (λ clusters made. subst (λ (x : ℕ). IsInside c.args.h.now x c.args.blocks.now clusters) cap
    (inside_from c.args.h.now c.pass_cap.result c.cluster_cap-cap.result c.args.blocks.now c.in_ok-raced.raced c.split_roots-roots.result.items
    c.in_ok-raced.ensures c.pass_cap.ensures
    (c.split_roots-roots.ensures ∙ ap (split_by c.args.blocks.now) c.into_vec.ensures)
    c.args.k clusters c.vertices-vertices.ensures.sound c.requires.partition made))
    c.pair_within.ensures

pub returns-clause-by_root : goal.returns-clause-by_root
returns-clause-by_root g c =
    IfOk-weaker c.pair_within.result (λ clusters. clusters ≡ numbered (paired_inside c.args.h.now c.cluster_cap-cap.result c.args.k c.args.blocks.now
    c.split_roots-roots.result.items)) IsByRoot
    (λ clusters made. by_root_inside c.args.h.now c.cluster_cap-cap.result c.args.k c.args.blocks.now c.split_roots-roots.result.items clusters
    c.vertices-vertices.ensures.sound
    (split_rooted c.args.h.now c.pass_cap.result c.cluster_cap-cap.result c.args.blocks.now c.in_ok-raced.raced c.split_roots-roots.result.items
    c.in_ok-raced.ensures c.pass_cap.ensures
    (c.split_roots-roots.ensures ∙ ap (split_by c.args.blocks.now) c.into_vec.ensures)) made)
    c.pair_within.ensures
