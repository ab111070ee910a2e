-- The heaviest first are the free vertices, each once.
use Rattle.std.proofs.Common.{ℕ, map, ap, sym, ◌∙◌, subst}
use Rattle.std.specs.declared.cmp.Reverse.{Reverse}
use Rattle.hg_defs.specs.PlacementLaws.{ListsFree}
use Rattle.hg_defs.proofs.PlacementLaws.{heaviest_first-lists_free}
use Rattle.hg_base.proofs.placement.greedy.Goals as goal

pub place_ranks-requires-clause-listed : goal.place_ranks-requires-clause-listed
place_ranks-requires-clause-listed c =
    subst (ListsFree c.args.h.now) (sym (ap (map (λ (r : Reverse ℕ × ℕ). r.1)) c.deref.ensures.value ∙ c.in_ok-ranks.ensures.order))
    (heaviest_first-lists_free c.args.h.now)
