-- The cluster of a vertex that isn't free gets its fix.
use Rattle.std.proofs.Common.{◌≡◌, ◌≢◌, ℕ, ◌+◌, ◌-◌, ◌<◌, ◌≤◌, List, length, drop, map, slice_index, slice_set, All, refl, sym, ap, ◌∙◌, subst, arith}
use Rattle.std.specs.List.{range_with_len}
use Rattle.std.proofs.lemmas.List.{get_or_default}
use Rattle.hg_defs.specs.declared.objective.TheConstants.{FREE}
use Rattle.hg_defs.specs.Contraction.{fix_in}
use Rattle.hg_defs.specs.Hypergraph.{Hyper, vertex_count, fix_of, IsHypergraph}
use Rattle.contract_nets.proofs.VertexLaws.{free_are, fix_in-set_more, fix_in-same_more}
use Rattle.contract_nets.proofs.vertices.copy_fixes.Goals as goal

pub loop-v-init : goal.loop-v-init
loop-v-init c =
    let h = c.args.h.now in
    let long : length h.fixes ≤ c.vertices-v.result = (let a = c.vertices-v.ensures.count in let b = c.vertices-v.ensures.sound.fixes in omega arith) in
    record {
      rest = refl;
      fixes = c.requires.free ∙ free_are h.fixes c.args.clusters.now c.vertices-v.result (vertex_count c.args.coarse.now) long;
    }

module _ (h : Hyper) (cs xs : List ℕ) (v n fix : ℕ) (sound : IsHypergraph h) (long : length cs ≡ vertex_count h) (positive : 0 < v)
    (within : v ≤ vertex_count h) (same : xs ≡ map (fix_in (drop v h.fixes) (drop v cs)) (range_with_len 0 n)) (read : fix ≡ fix_of h (v - 1)) where
  fixes : v - 1 < length h.fixes
  fixes = let b = sound.fixes in omega arith

  clusters : v - 1 < length cs
  clusters = omega arith

  fix_is : fix ≡ slice_index h.fixes (v - 1)
  fix_is = read ∙ get_or_default h.fixes (v - 1) FREE 0 fixes

  later : xs ≡ map (fix_in (drop (v - 1 + 1) h.fixes) (drop (v - 1 + 1) cs)) (range_with_len 0 n)
  later =
      let up : v ≡ v - 1 + 1 = omega arith in
      subst (λ (u : ℕ). xs ≡ map (fix_in (drop u h.fixes) (drop u cs)) (range_with_len 0 n)) up same

  written : All (λ i. i < n) cs → fix ≢ FREE → slice_set xs (slice_index cs (v - 1)) fix ≡ map (fix_in (drop (v - 1) h.fixes) (drop (v - 1) cs))
      (range_with_len 0 n)
  written few fixed =
      ap (slice_set xs (slice_index cs (v - 1))) fix_is
      ∙ fix_in-set_more h.fixes cs xs (v - 1) n later fixes clusters (few (v - 1) 0 clusters) (λ free. fixed (fix_is ∙ free))

  kept : fix ≡ FREE → xs ≡ map (fix_in (drop (v - 1) h.fixes) (drop (v - 1) cs)) (range_with_len 0 n)
  kept free = fix_in-same_more h.fixes cs xs (v - 1) n later fixes clusters (sym fix_is ∙ free)

pub loop-v-preserved-then-fix-ne-FREE : goal.loop-v-preserved-then-fix-ne-FREE
loop-v-preserved-then-fix-ne-FREE c =
    let i = slice_index c.args.clusters.now (c.loop-v.v - 1) in
    let e = c.set_fix.ensures in
    let within : c.loop-v.v ≤ vertex_count c.args.h.now = omega (arith, c.loop-v.auto.v, c.vertices-v.ensures.count) in
    record {
      rest = rw e (ap (λ (x : Hyper). record x { fixes = slice_set c.loop-v.coarse.fixes i c.fix-fix.result }) c.loop-v.invariant.rest);
      fixes = ap (λ (x : Hyper). x.fixes) e
          ∙ written c.args.h.now c.args.clusters.now c.loop-v.coarse.fixes c.loop-v.v (vertex_count c.args.coarse.now) c.fix-fix.result
          c.vertices-v.ensures.sound c.requires.vertices c.loop-v-test.true within c.loop-v.invariant.fixes c.fix-fix.ensures.value
          c.requires.below c.if-fix-ne-FREE.true;
    }

pub loop-v-preserved : goal.loop-v-preserved
loop-v-preserved c =
    let within : c.loop-v.v ≤ vertex_count c.args.h.now = omega (arith, c.loop-v.auto.v, c.vertices-v.ensures.count) in
    record {
      rest = c.loop-v.invariant.rest;
      fixes = kept c.args.h.now c.args.clusters.now c.loop-v.coarse.fixes c.loop-v.v (vertex_count c.args.coarse.now) c.fix-fix.result
          c.vertices-v.ensures.sound c.requires.vertices c.loop-v-test.true within c.loop-v.invariant.fixes c.fix-fix.ensures.value
          c.if-fix-ne-FREE.false;
    }
