-- Pairing inside one block is pairing.
use Rattle.std.proofs.Common.{◌≡◌, ℕ, ◌<◌, List, length, replicate, get_or, All, refl, sym, ap, ◌∙◌, subst, arith}
use Rattle.std.proofs.lemmas.List.{length-replicate, get_or-replicate}
use Rattle.std.proofs.lemmas.Result.{IfOk-weaker}
use Rattle.hg_defs.specs.Hypergraph.{Hyper, IsHypergraph, vertex_count}
use Rattle.hg_defs.specs.Partition.{IsPartition, block_of}
use Rattle.hg_defs.specs.Clustering.{IsInside, IsClustering, IsMaximal}
use Rattle.hg_defs.specs.Numbering.{IsRooted, numbered}
use Rattle.hg_defs.specs.Pairing.{paired_from, paired_inside}
use Rattle.hg_defs.proofs.PairingLaws.{paired_inside-inside}
use Rattle.coarsen.specs.Numbers.{IsByRoot}
use Rattle.coarsen.proofs.RootLaws.{by_root_inside}
use Rattle.coarsen.proofs.SweepLaws.{zeros, paired_zeros}
use Rattle.coarsen.proofs.pairing.pair_all.Goals as goal

module _ (h : Hyper) (cap n : ℕ) (roots blocks clusters : List ℕ) (sound : IsHypergraph h) (r : IsRooted h cap roots) (same : blocks ≡ replicate n 0)
    (count : n ≡ length roots)
    (made : clusters ≡ numbered (paired_inside h cap 1 blocks roots)) where
  whole : clusters ≡ numbered (paired_inside h cap 1 (replicate n 0) roots)
  whole = made ∙ ap (λ (bs : List ℕ). numbered (paired_inside h cap 1 bs roots)) same

  paired_is : clusters ≡ numbered (paired_from h cap roots)
  paired_is = whole ∙ ap numbered (paired_zeros h cap n h.nets roots)

  partition : IsPartition h 1 (replicate n 0)
  partition = record {
    vertices = length-replicate n 0 ∙ count ∙ r.vertices;
    blocks = λ k d l. (let e = length-replicate {A = ℕ} n 0 in let z = get_or-replicate n k 0 d (omega arith) in omega arith);
  }

  inside : IsInside h cap (replicate n 0) clusters
  inside = subst (IsInside h cap (replicate n 0)) (sym whole) (paired_inside-inside h cap 1 (replicate n 0) roots sound partition r (λ u v t. zeros n u ∙
      sym (zeros n v)))

  clustering_is : IsClustering h cap clusters
  clustering_is = inside.clustering

  maximal_is : IsMaximal h cap clusters
  maximal_is k d l u v near = inside.maximal k d l u v near (zeros n u ∙ sym (zeros n v))

pub returns-clause-paired : goal.returns-clause-paired
returns-clause-paired c =
    IfOk-weaker c.pair_within.result (λ clusters. clusters ≡ numbered (paired_inside c.args.h.now c.args.cap 1 c.deref.result.now c.args.roots.items))
    (λ clusters. clusters ≡ numbered (paired_from c.args.h.now c.args.cap c.args.roots.items))
    (λ clusters made. paired_is c.args.h.now c.args.cap c.len.result c.args.roots.items c.deref.result.now clusters c.vertices-vertices.ensures.sound
    c.requires (c.deref.ensures.value ∙ c.in_ok-blocks.ensures.items_if_clones_equal (λ y e. e)) (omega (arith, c.len.ensures, c.args.roots.ok.0)) made)
    c.pair_within.ensures

pub returns-clause-clustering : goal.returns-clause-clustering
returns-clause-clustering c =
    IfOk-weaker c.pair_within.result (λ clusters. clusters ≡ numbered (paired_inside c.args.h.now c.args.cap 1 c.deref.result.now c.args.roots.items))
    (IsClustering c.args.h.now c.args.cap)
    (λ clusters made. clustering_is c.args.h.now c.args.cap c.len.result c.args.roots.items c.deref.result.now clusters c.vertices-vertices.ensures.sound
    c.requires (c.deref.ensures.value ∙ c.in_ok-blocks.ensures.items_if_clones_equal (λ y e. e)) (omega (arith, c.len.ensures, c.args.roots.ok.0)) made)
    c.pair_within.ensures

pub returns-clause-maximal : goal.returns-clause-maximal
returns-clause-maximal c =
    IfOk-weaker c.pair_within.result (λ clusters. clusters ≡ numbered (paired_inside c.args.h.now c.args.cap 1 c.deref.result.now c.args.roots.items))
    (IsMaximal c.args.h.now c.args.cap)
    (λ clusters made. maximal_is c.args.h.now c.args.cap c.len.result c.args.roots.items c.deref.result.now clusters c.vertices-vertices.ensures.sound
    c.requires (c.deref.ensures.value ∙ c.in_ok-blocks.ensures.items_if_clones_equal (λ y e. e)) (omega (arith, c.len.ensures, c.args.roots.ok.0)) made)
    c.pair_within.ensures

pub returns-clause-by_root : goal.returns-clause-by_root
returns-clause-by_root c =
    IfOk-weaker c.pair_within.result (λ clusters. clusters ≡ numbered (paired_inside c.args.h.now c.args.cap 1 c.deref.result.now c.args.roots.items))
    IsByRoot
    (λ clusters made. by_root_inside c.args.h.now c.args.cap 1 c.deref.result.now c.args.roots.items clusters c.vertices-vertices.ensures.sound c.requires made)
    c.pair_within.ensures
