use Rattle.std.proofs.Common.{◌<◌, ℕ, List, All, sym, ap, ◌∙◌, subst}
use Rattle.std.proofs.lemmas.List.Elements.{All-map}
use Rattle.hg_defs.specs.declared.moves.Move.{Move}
use Rattle.hg_defs.specs.Hypergraph.{vertex_count}
use Rattle.hg_defs.specs.Replay.{replay}
use Rattle.rollback_prefix.specs.Steps.{turned}
use Rattle.rollback_prefix.proofs.UndoLaws.{undone_is}
use Rattle.rollback_prefix.proofs.prefix.undo.Goals as goal

pub replay_with-requires-clause-vertices : goal.replay_with-requires-clause-vertices
replay_with-requires-clause-vertices g c κs within =
    subst (All (λ (m : Move). m.vertex < vertex_count c.args.h.now)) (sym (c.as_slice.ensures.value ∙ c.in_ok-back.ensures))
    (All-map (λ (m : Move). m.vertex < vertex_count c.args.h.now) turned c.args.moves.now c.requires.vertices)

pub replay_with-requires-clause-blocks : goal.replay_with-requires-clause-blocks
replay_with-requires-clause-blocks g c κs within =
    subst (All (λ (m : Move). m.to < c.args.p.now.k)) (sym (c.as_slice.ensures.value ∙ c.in_ok-back.ensures))
    (All-map (λ (m : Move). m.to < c.args.p.now.k) turned c.args.moves.now c.requires.blocks)

pub returns-clause-ok : goal.returns-clause-ok
returns-clause-ok g c =
    let p = c.args.p.now in
    c.replay_with.ensures
    ∙ ap (λ (ms : List Move). record p { blocks = replay p.blocks ms }) (c.as_slice.ensures.value ∙ c.in_ok-back.ensures)
    ∙ ap (λ (q : List ℕ). record p { blocks = q }) (sym (undone_is p.blocks c.args.moves.now))
