-- The fixed vertices are placed, and then the free ones.
use Rattle.std.proofs.Common.{◌<◌, None, Some, arith, sym, ◌∙◌, subst, ℕ, map}
use Rattle.std.specs.declared.cmp.Reverse.{Reverse}
use Rattle.hg_defs.specs.Partition.{IsPartition, Obeys, Fits}
use Rattle.hg_defs.specs.PlacementLaws.{IsPlaceable}
use Rattle.hg_defs.proofs.PlacementLaws.{least_loaded-partition, least_loaded-obeys, none_overfills}
use Rattle.hg_defs.specs.Hypergraph.{vertex_count, IsFree}
use Rattle.hg_base.proofs.RankLaws.{All-vertices}
use Rattle.hg_base.proofs.PlacingLaws.{listed_vertices, listed_free, fixed_overfills, fixed_blocks, fixed_loads, free_overfills, all_placed}
use Rattle.hg_base.proofs.placement.place_ranks.Goals as goal

pub returns-in-Some-clause-cause : goal.returns-in-Some-clause-cause
returns-in-Some-clause-cause c =
    fixed_overfills c.args.h.now c.args.k c.args.limit (map (λ (r : Reverse ℕ × ℕ). r.1) c.args.ranks.now) c.in_ok-placing.placing c.place_fixed.new.self
    c.in_ok-placing.ensures.state c.in-Some.vertex c.in-Some.ensures

pub place_free-requires-clause-blocks : goal.place_free-requires-clause-blocks
place_free-requires-clause-blocks c =
    fixed_blocks c.args.h.now c.args.k c.args.limit (map (λ (r : Reverse ℕ × ℕ). r.1) c.args.ranks.now) c.in_ok-placing.placing c.place_fixed.new.self
    c.in_ok-placing.ensures.state c.in_default.ensures.0 c.in_default.ensures.1

pub place_free-requires-clause-some : goal.place_free-requires-clause-some
place_free-requires-clause-some c =
    let loads = fixed_loads c.args.h.now c.args.k c.args.limit (map (λ (r : Reverse ℕ × ℕ). r.1) c.args.ranks.now) c.in_ok-placing.placing
    c.place_fixed.new.self
    c.in_ok-placing.ensures.state c.in_default.ensures.0 c.in_default.ensures.1 in
    omega (arith, c.requires.some)

pub place_free-requires-clause-few : goal.place_free-requires-clause-few
place_free-requires-clause-few c =
    let loads = fixed_loads c.args.h.now c.args.k c.args.limit (map (λ (r : Reverse ℕ × ℕ). r.1) c.args.ranks.now) c.in_ok-placing.placing
    c.place_fixed.new.self
    c.in_ok-placing.ensures.state c.in_default.ensures.0 c.in_default.ensures.1 in
    omega (arith, c.requires.few)

pub place_free-requires-clause-vertices : goal.place_free-requires-clause-vertices
place_free-requires-clause-vertices c =
    All-vertices (λ v. v < vertex_count c.args.h.now) c.args.ranks.now (listed_vertices c.args.h.now (map (λ (r : Reverse ℕ × ℕ). r.1) c.args.ranks.now)
    c.requires.listed)

pub place_free-requires-clause-free : goal.place_free-requires-clause-free
place_free-requires-clause-free c =
    All-vertices (IsFree c.args.h.now) c.args.ranks.now (listed_free c.args.h.now (map (λ (r : Reverse ℕ × ℕ). r.1) c.args.ranks.now) c.requires.listed)

pub returns-in-Some-place_free-clause-cause : goal.returns-in-Some-place_free-clause-cause
returns-in-Some-place_free-clause-cause c =
    free_overfills c.args.h.now c.args.k c.args.limit (map (λ (r : Reverse ℕ × ℕ). r.1) c.args.ranks.now) c.in_ok-placing.placing c.place_fixed.new.self
    c.in_ok-placing.ensures.state c.in_default.ensures.0 c.in_default.ensures.1 (Some c.in-Some-place_free.vertex) c.in-Some-place_free.ensures

pub returns-clause-ok : goal.returns-clause-ok
returns-clause-ok c =
    c.from_vec.ensures ∙ c.into_blocks.ensures
    ∙ all_placed c.args.h.now c.args.k c.args.limit (map (λ (r : Reverse ℕ × ℕ). r.1) c.args.ranks.now) c.in_ok-placing.placing c.place_fixed.new.self
    c.in_ok-placing.ensures.state c.in_default.ensures.0 c.in_default.ensures.1 c.place_free.new.self c.in_default-place_free.ensures.1

pub returns-clause-within : goal.returns-clause-within
returns-clause-within c =
    free_overfills c.args.h.now c.args.k c.args.limit (map (λ (r : Reverse ℕ × ℕ). r.1) c.args.ranks.now) c.in_ok-placing.placing c.place_fixed.new.self
    c.in_ok-placing.ensures.state c.in_default.ensures.0 c.in_default.ensures.1 None c.in_default-place_free.ensures.0

pub returns-clause-partition : goal.returns-clause-partition
returns-clause-partition c =
    subst (IsPartition c.args.h.now c.args.k) (sym (returns-clause-ok c))
    (least_loaded-partition c.args.h.now c.args.k (map (λ (r : Reverse ℕ × ℕ). r.1) c.args.ranks.now) c.in_ok-placing.ensures.sound c.requires.fixed
    c.requires.some)

pub returns-clause-fixes : goal.returns-clause-fixes
returns-clause-fixes c =
    subst (Obeys c.args.h.now) (sym (returns-clause-ok c))
    (least_loaded-obeys c.args.h.now c.args.k (map (λ (r : Reverse ℕ × ℕ). r.1) c.args.ranks.now) c.in_ok-placing.ensures.sound c.requires.fixed
    c.requires.some)

pub returns-clause-fits : goal.returns-clause-fits
returns-clause-fits c =
    let ready : IsPlaceable c.args.h.now c.args.k (map (λ (r : Reverse ℕ × ℕ). r.1) c.args.ranks.now) = record {
      hypergraph = c.in_ok-placing.ensures.sound;
      fixed = c.requires.fixed;
      blocks = c.requires.some;
      listed = c.requires.listed;
    } in
    subst (Fits c.args.h.now c.args.k c.args.limit) (sym (returns-clause-ok c))
    (none_overfills c.args.h.now c.args.k c.args.limit (map (λ (r : Reverse ℕ × ℕ). r.1) c.args.ranks.now) ready (returns-clause-within c))
