use Rattle.std.proofs.Common.{All, ◌-◌, ◌<◌, ◌∙◌, sym, ap, subst, arith}
use Rattle.std.specs.List.{range_with_len}
use Rattle.std.proofs.lemmas.List.Elements.{All-filter}
use Rattle.rayon.proofs.ListFacts.{IfOk-then}
use Rattle.hg_defs.specs.Hypergraph.{Hyper, IsHypergraph, vertex_count}
use Rattle.hg_defs.specs.Partition.{IsPartition}
use Rattle.pin_plain.specs.BestMoves.{best_moves}
use Rattle.det_sync.specs.CutNets.{is_held}
use Rattle.det_sync.proofs.CutLaws.{range_from}
use Rattle.det_sync.proofs.WishLaws.{asked_all}
use Rattle.det_sync.proofs.wishes.part_wishes.Goals as goal

pub best_moves-requires-clause-vertices : goal.best_moves-requires-clause-vertices
best_moves-requires-clause-vertices c =
    let h = c.args.h.now in
    let first = c.args.first in
    let n = c.args.end - first in
    let ordered = c.requires.ordered in
    let within = c.requires.within in
    subst (All (λ v. v < vertex_count h)) (sym (c.as_slice.ensures.value ∙ c.in_ok-held.ensures))
    (All-filter (is_held h c.args.marks.now) (λ v. v < vertex_count h) (range_with_len first n)
    (range_from (λ v. v < vertex_count h) first n (λ i low. omega arith)))

pub returns : goal.returns
returns c =
    let h = c.args.h.now in
    let p = c.args.p.now in
    let first = c.args.first in
    let ordered = c.requires.ordered in
    let within = c.requires.within in
    let parted = c.blocks-parted.ensures.parted in
    let good = subst (λ (x : Hyper). IsHypergraph x) c.requires.belongs parted.sound in
    let whole = subst (λ (x : Hyper). IsPartition x p.k p.blocks) c.requires.belongs parted.partition in
    IfOk-then c.best_moves.result _ _ c.best_moves.ensures (λ v found.
    found ∙ ap (best_moves h p.k p.limit p.blocks) (c.as_slice.ensures.value ∙ c.in_ok-held.ensures)
    ∙ asked_all h p.k p.limit p.blocks c.args.marks.now first (c.args.end - first) good whole c.requires.marks (omega arith))
