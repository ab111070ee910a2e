-- A sorted list without repeats is the set.
use Rattle.std.proofs.Common.{◌∙◌, nat_eq}
use Rattle.std.specs.Cmp.{unsigned_ties}
use Rattle.std.proofs.lemmas.Cmp.{nat_cmp_total}
use Rattle.hg_defs.proofs.SortLaws.{nat_cmp_exact, set_from_dedup}
use Rattle.hg_base.proofs.sets.sort_set.Goals as goal

pub returns-clause-set : goal.returns-clause-set
returns-clause-set c =
    c.drop_repeats.ensures.kept
    ∙ set_from_dedup nat_cmp_total nat_cmp_exact nat_eq unsigned_ties _ _ c.sort_unstable.ensures.permutation c.sort_unstable.ensures.sorted
