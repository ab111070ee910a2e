-- The round of one move is plain, and leads where the rollback leads.
use Rattle.std.proofs.Common.{◌≡◌, ◌<◌, [], ◌∷◌, ◌++◌, List, ℤ, length, get_or, to_z, of_z, refl, ap, ap₂, subst, sym, ◌∙◌, arith}
use mir.Syntax.{w64}
use Rattle.hg_defs.specs.declared.moves.Move.{Move}
use Rattle.hg_defs.specs.Hypergraph.{Hyper}
use Rattle.hg_defs.specs.Partition.{block_of}
use Rattle.hg_defs.specs.Cost.{cost}
use Rattle.hg_defs.specs.Replay.{replay_first}
use Rattle.hg_defs.specs.Moves.{moved}
use Rattle.hg_base.proofs.CountLaws.{cost-lt}
use Rattle.pin_plain.specs.Parted.{Parted, IsParted}
use Rattle.fm_search.proofs.SingleLaws.{told_gain, single, rolled_kept, rolled_to, rolled_from, rolled_fits}
use Rattle.fm_search.proofs.single.single_round.Goals as goal

pub roll_back-requires-clause-moves : goal.roll_back-requires-clause-moves
roll_back-requires-clause-moves g c κs within =
    let h = c.args.h.now in
    let p : Parted = c.args.p.now in
    let parted = subst (λ (x : Hyper). IsParted x p.k p.blocks) c.requires.belongs c.blocks-2.ensures.parted in
    let m : Move = record {
      vertex = c.args.first.0;
      from = get_or c.blocks-2.result.now c.args.first.0 0;
      to = c.args.first.1;
      worker = 0;
      booked = to_z w64 (of_z w64 c.gain.result);
    } in
    let from : m.from ≡ block_of p.blocks m.vertex = ap (λ xs. get_or xs c.args.first.0 0) c.blocks-2.ensures.value in
    let low : m.vertex < length p.blocks = let a = c.requires.first.possible.allowed.vertex in let b = parted.partition.vertices in omega arith in
    let rolled = c.slice.ensures ∙ (c.in_ok-push.ensures.ok ∙ ap (λ (xs : List Move). xs ++ m ∷ []) c.new-moves.ensures) in
    rolled_from h p c.shift.new.self m c.slice.result.now c.shift.ensures rolled low from parted c.requires.first.possible.allowed.vertex
    c.requires.first.possible.allowed.block

pub roll_back-requires-clause-fits : goal.roll_back-requires-clause-fits
roll_back-requires-clause-fits g c κs within =
    let h = c.args.h.now in
    let p : Parted = c.args.p.now in
    let parted = subst (λ (x : Hyper). IsParted x p.k p.blocks) c.requires.belongs c.blocks-2.ensures.parted in
    let m : Move = record {
      vertex = c.args.first.0;
      from = get_or c.blocks-2.result.now c.args.first.0 0;
      to = c.args.first.1;
      worker = 0;
      booked = to_z w64 (of_z w64 c.gain.result);
    } in
    let from : m.from ≡ block_of p.blocks m.vertex = ap (λ xs. get_or xs c.args.first.0 0) c.blocks-2.ensures.value in
    let low : m.vertex < length p.blocks = let a = c.requires.first.possible.allowed.vertex in let b = parted.partition.vertices in omega arith in
    let rolled = c.slice.ensures ∙ (c.in_ok-push.ensures.ok ∙ ap (λ (xs : List Move). xs ++ m ∷ []) c.new-moves.ensures) in
    rolled_fits h p c.shift.new.self m c.slice.result.now c.shift.ensures rolled low from c.requires.fits

pub returns-clause-round : goal.returns-clause-round
returns-clause-round g c =
    let h = c.args.h.now in
    let p : Parted = c.args.p.now in
    let parted = subst (λ (x : Hyper). IsParted x p.k p.blocks) c.requires.belongs c.blocks-2.ensures.parted in
    let m : Move = record {
      vertex = c.args.first.0;
      from = get_or c.blocks-2.result.now c.args.first.0 0;
      to = c.args.first.1;
      worker = 0;
      booked = to_z w64 (of_z w64 c.gain.result);
    } in
    let from : m.from ≡ block_of p.blocks m.vertex = ap (λ xs. get_or xs c.args.first.0 0) c.blocks-2.ensures.value in
    let low : m.vertex < length p.blocks = let a = c.requires.first.possible.allowed.vertex in let b = parted.partition.vertices in omega arith in
    let told = told_gain c.gain.result (cost h p.blocks) (cost h (moved p.blocks m.vertex m.to)) c.gain.ensures (cost-lt h p.blocks parted.bounds)
    (cost-lt h (moved p.blocks m.vertex m.to) parted.bounds) in
    let rolled = c.slice.ensures ∙ (c.in_ok-push.ensures.ok ∙ ap (λ (xs : List Move). xs ++ m ∷ []) c.new-moves.ensures) in
    record {
      single = single h p.k p.limit p.blocks m parted c.requires.fits
          (record { possible = c.requires.first.possible; vertex = c.requires.first.vertex; block = c.requires.first.block }) from refl (told ∙ c.gain.ensures)
          _
          (c.in_ok-push.ensures.ok ∙ ap (λ (xs : List Move). xs ++ m ∷ []) c.new-moves.ensures)
          (c.in_ok-push-2.ensures.ok ∙ ap₂ (λ (xs : List ℤ) (x : ℤ). xs ++ x ∷ []) c.new-gains.ensures (ap (λ (x : ℤ). to_z w64 (of_z w64 x)) told))
          c.requires.before
          (c.cost-made.ensures.value ∙ ap (λ (x : Parted). cost h x.blocks) c.shift.ensures)
          (rolled_kept h p c.shift.new.self m c.slice.result.now c.shift.ensures rolled low from c.in_ok-kept.kept c.in_ok-kept.ensures.kept)
          (c.cost.ensures.value ∙ ap (λ (x : Parted). cost h x.blocks)
          (rolled_to h p c.shift.new.self m c.slice.result.now c.shift.ensures rolled low from c.roll_back.new.p c.in_ok-kept.kept
          c.in_ok-kept.ensures.partition))
          (record { first = refl; second = refl; value = refl; region = c.new.ensures })
          refl;
      kind = refl;
      level = refl;
    }

pub returns-clause-partition : goal.returns-clause-partition
returns-clause-partition g c =
    let h = c.args.h.now in
    let p : Parted = c.args.p.now in
    let parted = subst (λ (x : Hyper). IsParted x p.k p.blocks) c.requires.belongs c.blocks-2.ensures.parted in
    let m : Move = record {
      vertex = c.args.first.0;
      from = get_or c.blocks-2.result.now c.args.first.0 0;
      to = c.args.first.1;
      worker = 0;
      booked = to_z w64 (of_z w64 c.gain.result);
    } in
    let from : m.from ≡ block_of p.blocks m.vertex = ap (λ xs. get_or xs c.args.first.0 0) c.blocks-2.ensures.value in
    let low : m.vertex < length p.blocks = let a = c.requires.first.possible.allowed.vertex in let b = parted.partition.vertices in omega arith in
    rolled_to h p c.shift.new.self m c.slice.result.now c.shift.ensures
    (c.slice.ensures ∙ (c.in_ok-push.ensures.ok ∙ ap (λ (xs : List Move). xs ++ m ∷ []) c.new-moves.ensures)) low from
    c.roll_back.new.p c.in_ok-kept.kept c.in_ok-kept.ensures.partition
    ∙ ap (λ (ms : List Move). record p { blocks = replay_first p.blocks ms c.in_ok-kept.kept })
    (sym (c.in_ok-push.ensures.ok ∙ ap (λ (xs : List Move). xs ++ m ∷ []) c.new-moves.ensures))
