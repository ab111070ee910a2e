use Rattle.std.proofs.Common.{◌∙◌, ℕ, List, ℤ, sym, subst}
use Rattle.hg_defs.specs.declared.moves.Move.{Move}
use Rattle.hg_defs.specs.Hypergraph.{Hyper}
use Rattle.hg_defs.specs.Partition.{IsPartition}
use Rattle.rollback_prefix.specs.Steps.{StartFrom, AreReplayGains}
use Rattle.det_sync.specs.Rounds.{AreBooked}
use Rattle.det_sync.proofs.RoundLaws.{unbooked_start, booked_are}
use Rattle.det_sync.proofs.CutLaws.{written}
use Rattle.det_sync.proofs.rounds.grant.Goals as goal

pub recalculate-requires-clause-moves : goal.recalculate-requires-clause-moves
recalculate-requires-clause-moves g c κs within =
    let p = c.args.p.now in
    let whole = subst (λ (x : Hyper). IsPartition x p.k p.blocks) c.requires.belongs c.blocks-2.ensures.parted.partition in
    subst (λ (n : ℕ). StartFrom c.args.h.now n c.blocks-2.result.now c.as_slice.result.now) (sym c.k.ensures)
    (subst (λ (q : List ℕ). StartFrom c.args.h.now p.k q c.as_slice.result.now) (sym c.blocks-2.ensures.value)
    (subst (StartFrom c.args.h.now p.k p.blocks) (sym (c.as_slice.ensures.value ∙ c.in_ok-moves.ensures))
    (unbooked_start c.args.h.now p.k p.limit p.blocks whole)))

pub returns : goal.returns
returns g c =
    let p = c.args.p.now in
    let h = c.args.h.now in
    let moves = c.in_ok-moves.moves.items in
    let gained = subst (λ (q : List ℕ). AreReplayGains h q moves c.in_ok-gains.gains) c.blocks-2.ensures.value
    (subst (λ (ms : List Move). AreReplayGains h c.blocks-2.result.now ms c.in_ok-gains.gains) c.as_slice.ensures.value c.in_ok-gains.ensures) in
    let booked = subst (λ (ms : List Move). AreBooked ms c.in_ok-gains.gains c.book.new.moves) c.as_mut_slice.ensures.value
    (subst (λ (zs : List ℤ). AreBooked c.as_mut_slice.result.now zs c.book.new.moves) c.slice.ensures c.book.ensures) in
    written c.in_ok-moves.moves.len c.book.new.moves moves (c.book.ensures.size ∙ c.as_mut_slice.ensures.len)
    ∙ booked_are h p.k p.limit p.blocks moves c.book.new.moves c.in_ok-gains.gains c.in_ok-moves.ensures gained booked
