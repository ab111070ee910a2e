use Rattle.std.proofs.Common.{◌≡◌, arith, ◌∙◌, sym, ap, length}
use Rattle.hg_defs.specs.declared.objective.TheConstants.{FREE}
use Rattle.hg_defs.specs.Hypergraph.{Hyper, vertex_count}
use Rattle.part_run.proofs.partition.with_fixes.Goals as goal

pub fix_all-requires-clause-vertices : goal.fix_all-requires-clause-vertices
fix_all-requires-clause-vertices g c = ap length c.slice.ensures ∙ c.in_ok-fixes.ensures.vertices ∙ c.vertices.ensures.count

pub fix_all-requires-clause-within : goal.fix_all-requires-clause-within
fix_all-requires-clause-within g c = rw c.slice.ensures (c.in_ok-fixes.ensures.within c.requires)

pub returns-clause-within : goal.returns-clause-within
returns-clause-within g c =
    let fixes : c.fix_all.new.h.fixes ≡ c.in_ok-fixes.fixes = ap (λ (h : Hyper). h.fixes) c.fix_all.ensures ∙ c.slice.ensures in
    let count : vertex_count c.fix_all.new.h ≡ length c.in_ok-fixes.fixes =
    ap (λ (h : Hyper). vertex_count h) c.fix_all.ensures ∙ sym c.vertices.ensures.count ∙ sym c.in_ok-fixes.ensures.vertices in
    λ v low. rw fixes (c.in_ok-fixes.ensures.below v FREE (omega (arith, count)))
