-- The weights and fixes, one after the other.
use Rattle.std.proofs.Common.{◌≡◌, ℕ, ◌<◌, List, [], length, map, replicate, All, sym, ap, ◌∙◌, subst}
use Rattle.std.specs.List.{range_with_len}
use Rattle.std.proofs.lemmas.List.{length-replicate}
use Rattle.std.proofs.lemmas.List.FromFn.{length-map-range_with_len}
use Rattle.hg_defs.specs.declared.objective.Objective.{Objective}
use Rattle.hg_defs.specs.declared.objective.TheConstants.{FREE}
use Rattle.hg_defs.specs.Hypergraph.{Hyper, vertex_count}
use Rattle.hg_defs.specs.Partition.{weight_in}
use Rattle.hg_defs.specs.Contraction.{fix_in}
use Rattle.contract_nets.proofs.vertices.vertices_of.Goals as goal

module _ (started changed cleared weighed : Hyper) (ws cs : List ℕ) (n : ℕ) (o p : Objective)
    (a : started ≡ record { weights = replicate n 1; nets = []; objective = o; fixes = replicate n FREE })
    (b : changed ≡ record started { objective = p })
    (d : cleared ≡ record changed { weights = replicate (vertex_count changed) 0 })
    (e : weighed ≡ record cleared { weights = map (weight_in ws cs) (range_with_len 0 (vertex_count cleared)) }) where
  changed_is : changed ≡ record { weights = replicate n 1; nets = []; objective = p; fixes = replicate n FREE }
  changed_is = b ∙ ap (λ (x : Hyper). record x { objective = p }) a

  changed_count : vertex_count changed ≡ n
  changed_count = ap (λ (x : Hyper). length x.weights) changed_is ∙ length-replicate n 1

  cleared_count : vertex_count cleared ≡ n
  cleared_count = ap (λ (x : Hyper). length x.weights) d ∙ length-replicate (vertex_count changed) 0 ∙ changed_count

  cleared_rest : cleared ≡ record { weights = replicate (vertex_count changed) 0; nets = []; objective = p; fixes = replicate n FREE }
  cleared_rest = d ∙ ap (λ (x : Hyper). record x { weights = replicate (vertex_count changed) 0 }) changed_is

  weighed_is : weighed ≡ record { weights = map (weight_in ws cs) (range_with_len 0 n); nets = []; objective = p; fixes = replicate n FREE }
  weighed_is =
      e
      ∙ ap (λ (x : Hyper). record x { weights = map (weight_in ws cs) (range_with_len 0 (vertex_count cleared)) }) cleared_rest
      ∙ ap (λ (m : ℕ). let h : Hyper = record {
        weights = map (weight_in ws cs) (range_with_len 0 m);
        nets = [];
        objective = p;
        fixes = replicate n FREE;
      } in
      h) cleared_count

  weighed_count : vertex_count weighed ≡ n
  weighed_count = ap (λ (x : Hyper). length x.weights) weighed_is ∙ length-map-range_with_len (weight_in ws cs) 0 n

  free : weighed.fixes ≡ replicate (vertex_count weighed) FREE
  free = ap (λ (x : Hyper). x.fixes) weighed_is ∙ ap (λ (m : ℕ). replicate m FREE) (sym weighed_count)

  finished : (fs : List ℕ) (fixed : Hyper) → fixed ≡ record weighed { fixes = map (fix_in fs cs) (range_with_len 0 (vertex_count weighed)) }
      → fixed ≡ record { weights = map (weight_in ws cs) (range_with_len 0 n); nets = []; objective = p; fixes = map (fix_in fs cs) (range_with_len 0 n) }
  finished fs fixed f =
      f
      ∙ ap (λ (x : Hyper). record x { fixes = map (fix_in fs cs) (range_with_len 0 (vertex_count weighed)) }) weighed_is
      ∙ ap (λ (m : ℕ). let h : Hyper = record {
        weights = map (weight_in ws cs) (range_with_len 0 n);
        nets = [];
        objective = p;
        fixes = map (fix_in fs cs)
            (range_with_len 0 m);
      } in h) weighed_count

pub copy_fixes-requires-clause-below : goal.copy_fixes-requires-clause-below
copy_fixes-requires-clause-below c =
    subst (λ (m : ℕ). All (λ i. i < m) c.args.clusters.now)
    (sym (weighed_count _ _ _ _ _ _ _ _ _ c.in_ok-coarse.ensures.value c.set_objective.ensures c.clear_weights.ensures c.add_weights.ensures))
    c.requires.below

pub copy_fixes-requires-clause-free : goal.copy_fixes-requires-clause-free
copy_fixes-requires-clause-free c = free _ _ _ _ _ _ _ _ _ c.in_ok-coarse.ensures.value c.set_objective.ensures c.clear_weights.ensures
    c.add_weights.ensures

pub returns : goal.returns
returns c =
    finished _ _ _ _ _ _ _ _ _ c.in_ok-coarse.ensures.value c.set_objective.ensures c.clear_weights.ensures c.add_weights.ensures _ _ c.copy_fixes.ensures
    ∙ ap (λ (o : Objective). let h : Hyper = record {
      weights = map (weight_in c.args.h.now.weights c.args.clusters.now) (range_with_len 0 c.args.count);
      nets = [];
      objective = o;
      fixes = map (fix_in c.args.h.now.fixes c.args.clusters.now) (range_with_len 0 c.args.count);
    } in h) c.objective.ensures
