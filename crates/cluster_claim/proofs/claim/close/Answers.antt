-- The marks tell roots within the cap.
use Rattle.std.proofs.Common.{◌≡◌, map, slice_index, subst, sym, arith}
use Rattle.std.specs.List.{range_with_len}
use Rattle.std.specs.Slots.{slots_items}
use Rattle.std.proofs.lemmas.Result.{IfOk-weaker}
use Rattle.hg_defs.specs.Numbering.{IsRooted}
use Rattle.cluster_core.specs.Roots.{root_in}
use Rattle.cluster_claim.proofs.BoardLaws.{mark_fits, closed_roots}
use Rattle.cluster_claim.proofs.claim.close.Goals as goal

pub roots_in-roots-requires-clause-below : goal.roots_in-roots-requires-clause-below
roots_in-roots-requires-clause-below c =
    λ v l. let n = c.vertices.ensures.count in mark_fits c.args.table.shared.key c.args.table.shared.table_id c.args.h.now c.args.cap c.requires
    (slots_items c.close-closed.result.words) (slots_items c.close-closed.result.slots) c.close-closed.ensures.values.2 v (omega arith)

pub returns : goal.returns
returns c =
    IfOk-weaker c.roots_in-roots.result
    (λ roots. roots ≡ map (λ v. root_in (slice_index (slots_items c.close-closed.result.words) v) v) (range_with_len 0 c.vertices.result))
    (λ roots. IsRooted c.args.h.now c.args.cap roots)
    (λ roots e. subst (λ z. IsRooted c.args.h.now c.args.cap z) (sym e)
    (closed_roots c.args.table.shared.key c.args.table.shared.table_id c.args.h.now c.args.cap c.requires (slots_items c.close-closed.result.words)
    (slots_items c.close-closed.result.slots) c.close-closed.ensures.values.2 c.vertices.result c.vertices.ensures.count))
    c.roots_in-roots.ensures
