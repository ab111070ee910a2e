use Rattle.std.proofs.Common.{◌≡◌, List, Option, ◌++◌, ◌∙◌, [], length, sym, ap, ap₂, subst, arith, ◌+◌, ◌-◌, false, Result, Ok, Err, OnErr}
use Rattle.std.proofs.lemmas.List.{append-nil}
use Rattle.std.proofs.lemmas.List.Elements.{All-nil}
use Rattle.hg_defs.specs.declared.moves.Move.{Move}
use Rattle.hg_defs.specs.Hypergraph.{Hyper, IsHypergraph, vertex_count}
use Rattle.hg_defs.specs.Partition.{IsPartition, Fits}
use Rattle.hg_defs.specs.Cost.{cost}
use Rattle.pin_plain.specs.Parted.{Parted}
use Rattle.round_log.specs.declared.record.LoggedRound.{LoggedRound}
use Rattle.round_log.specs.declared.record.Kind.TheVariants.{Flow}
use Rattle.round_log.specs.Passes.{block_pairs}
use Rattle.refiner.specs.declared.pass.Task.{Task}
use Rattle.refiner.specs.declared.pass.Tally.{Tally}
use Rattle.refiner.specs.Logging.{LogsRounds}
use Rattle.flow_pair.specs.declared.solve.PairEnd.{PairEnd}
use Rattle.flow_pair.specs.Turns.{TakesTurns}
use Rattle.flow_pair.proofs.TurnLaws.{pass_logged}
use Rattle.flow_round.specs.PairTurns.{AreBooked, AreTurns, after_turns, waves}
use Rattle.flow_round.specs.Waves.{end_at, moves_at}
use Rattle.flow_round.proofs.WaveLaws.{waves_pass_order, waves_booked}
use Rattle.flow_round.proofs.pass.wave_pass.Goals as goal

-- the partition after the waves
after_waves : (h : Hyper) (p q : Parted) (ends : List (Option PairEnd)) → IsHypergraph h → IsPartition h p.k p.blocks → Fits h p.k p.limit p.blocks
    → q ≡ record p { blocks = after_turns (end_at p.k ends) (waves p.k) p.blocks }
    → AreTurns h p.k p.limit (end_at p.k ends) (waves p.k) p.blocks
    → q ≡ record p { blocks = after_turns (end_at p.k ends) (block_pairs p.k) p.blocks }
after_waves h p q ends sound parted fits is turns =
    is ∙ ap (λ x. record p { blocks = x }) (sym (waves_pass_order h p.k p.limit (end_at p.k ends) p.blocks sound parted fits turns).1)

pub record_turns-requires-clause-belongs : goal.record_turns-requires-clause-belongs
record_turns-requires-clause-belongs g c = c.in_ok-take_waves.ensures.front.belongs

pub record_turns-requires-clause-vertices : goal.record_turns-requires-clause-vertices
record_turns-requires-clause-vertices g c =
    ap length (c.as_mut_slice-2.ensures.value ∙ c.in_ok-blocks.ensures.items ∙ c.blocks-start.ensures.value)
    ∙ c.blocks-start.ensures.parted.partition.vertices ∙ ap vertex_count c.requires.belongs

pub record_turns-requires-clause-table : goal.record_turns-requires-clause-table
record_turns-requires-clause-table g c = ap length c.as_slice.ensures.value ∙ c.in_ok-take_waves.ensures.front.table_is

pub record_turns-requires-clause-moves : goal.record_turns-requires-clause-moves
record_turns-requires-clause-moves g c = ap length c.as_slice-2.ensures.value ∙ c.in_ok-take_waves.ensures.front.moves_are

pub record_turns-requires-clause-fits : goal.record_turns-requires-clause-fits
record_turns-requires-clause-fits g c =
    let h = c.args.h.now in
    let p = c.args.p in
    let first = c.as_mut_slice-2.ensures.value ∙ c.in_ok-blocks.ensures.items ∙ c.blocks-start.ensures.value in
    subst (λ (x : Parted). Fits h x.k x.limit c.as_mut_slice-2.result.now) (sym c.in_ok-take_waves.ensures.turns.same)
    (subst (Fits h p.k p.limit) (sym first) c.requires.fits)

pub record_turns-requires-clause-before : goal.record_turns-requires-clause-before
record_turns-requires-clause-before g c =
    c.in_ok-cut.ensures.cost
    ∙ ap (cost c.args.h.now) (sym (c.as_mut_slice-2.ensures.value ∙ c.in_ok-blocks.ensures.items ∙ c.blocks-start.ensures.value))

pub record_turns-requires-clause-turns : goal.record_turns-requires-clause-turns
record_turns-requires-clause-turns g c =
    let h = c.args.h.now in
    let p = c.args.p in
    let front = c.take_waves.new.self in
    let parted = c.blocks-start.ensures.parted in
    let sound = subst IsHypergraph c.requires.belongs parted.sound in
    let whole = subst (λ (x : Hyper). IsPartition x p.k p.blocks) c.requires.belongs parted.partition in
    let turns = (waves_pass_order h p.k p.limit (end_at p.k front.ends.items) p.blocks sound whole c.requires.fits
    c.in_ok-take_waves.ensures.turns.turns).0 in
    let first = c.as_mut_slice-2.ensures.value ∙ c.in_ok-blocks.ensures.items ∙ c.blocks-start.ensures.value in
    subst (λ (x : Parted). AreTurns h x.k x.limit (end_at x.k c.as_slice.result.now) (block_pairs x.k) c.as_mut_slice-2.result.now)
    (sym c.in_ok-take_waves.ensures.turns.same)
    (subst (AreTurns h p.k p.limit (end_at p.k c.as_slice.result.now) (block_pairs p.k)) (sym first)
    (subst (λ (es : List (Option PairEnd)). AreTurns h p.k p.limit (end_at p.k es) (block_pairs p.k) p.blocks) (sym c.as_slice.ensures.value) turns))

pub record_turns-requires-clause-booked : goal.record_turns-requires-clause-booked
record_turns-requires-clause-booked g c =
    let h = c.args.h.now in
    let p = c.args.p in
    let front = c.take_waves.new.self in
    let ends = end_at p.k front.ends.items in
    let made = moves_at p.k front.made.items in
    let parted = c.blocks-start.ensures.parted in
    let sound = subst IsHypergraph c.requires.belongs parted.sound in
    let whole = subst (λ (x : Hyper). IsPartition x p.k p.blocks) c.requires.belongs parted.partition in
    let booked = waves_booked h p.k p.limit ends made p.blocks sound whole c.requires.fits c.in_ok-take_waves.ensures.turns.turns
    c.in_ok-take_waves.ensures.turns.booked in
    let first = c.as_mut_slice-2.ensures.value ∙ c.in_ok-blocks.ensures.items ∙ c.blocks-start.ensures.value in
    subst (λ (x : Parted). AreBooked h (end_at x.k c.as_slice.result.now) (moves_at x.k c.as_slice-2.result.now) (block_pairs x.k)
    c.as_mut_slice-2.result.now) (sym c.in_ok-take_waves.ensures.turns.same)
    (subst (AreBooked h (end_at p.k c.as_slice.result.now) (moves_at p.k c.as_slice-2.result.now) (block_pairs p.k)) (sym first)
    (subst (λ (es : List (Option PairEnd)). AreBooked h (end_at p.k es) (moves_at p.k c.as_slice-2.result.now) (block_pairs p.k) p.blocks)
    (sym c.as_slice.ensures.value)
    (subst (λ (ms : List (List Move)). AreBooked h ends (moves_at p.k ms) (block_pairs p.k) p.blocks) (sym c.as_slice-2.ensures.value) booked)))

pub returns-clause-pass : goal.returns-clause-pass
returns-clause-pass g c =
    let h = c.args.h.now in
    let p = c.args.p in
    let front = c.take_waves.new.self in
    let q = front.part in
    let made = c.record_turns.new.rounds.items in
    let parted = c.blocks-start.ensures.parted in
    let sound = subst IsHypergraph c.requires.belongs parted.sound in
    let whole = subst (λ (x : Hyper). IsPartition x p.k p.blocks) c.requires.belongs parted.partition in
    let waves = c.in_ok-take_waves.ensures.turns in
    let first = c.as_mut_slice-2.ensures.value ∙ c.in_ok-blocks.ensures.items ∙ c.blocks-start.ensures.value in
    let start : record q { blocks = c.as_mut_slice-2.result.now } ≡ p =
    ap (λ (x : Parted). record x { blocks = c.as_mut_slice-2.result.now }) waves.same ∙ ap (λ x. record p { blocks = x }) first in
    let all : q ≡ record p { blocks = after_turns (end_at p.k front.ends.items) (block_pairs p.k) p.blocks } =
    after_waves h p q front.ends.items sound whole c.requires.fits waves.same waves.turns in
    let blocks : c.record_turns.new.blocks ≡ after_turns (end_at p.k front.ends.items) (block_pairs p.k) p.blocks =
    c.in_ok-after.ensures.blocks
    ∙ ap (λ (x : Parted). after_turns (end_at x.k c.as_slice.result.now) (block_pairs x.k) c.as_mut_slice-2.result.now) waves.same
    ∙ ap (after_turns (end_at p.k c.as_slice.result.now) (block_pairs p.k)) first
    ∙ ap (λ (es : List (Option PairEnd)). after_turns (end_at p.k es) (block_pairs p.k) p.blocks) c.as_slice.ensures.value in
    let end : record q { blocks = c.record_turns.new.blocks } ≡ q =
    ap (λ (x : Parted). record x { blocks = c.record_turns.new.blocks }) waves.same ∙ ap (λ x. record p { blocks = x }) blocks ∙ sym all in
    let turns = subst (λ (x : Parted). TakesTurns h c.args.task.now.level (block_pairs p.k) [] p x [] made) end
    (subst (λ (x : Parted). TakesTurns h c.args.task.now.level (block_pairs x.k) [] x (record q { blocks = c.record_turns.new.blocks }) [] made) start
    (subst (λ (xs : List LoggedRound). TakesTurns h c.args.task.now.level (block_pairs q.k) [] (record q { blocks = c.as_mut_slice-2.result.now })
    (record q { blocks = c.record_turns.new.blocks }) xs made) c.new-rounds.ensures.items c.in_ok-after.ensures.turns)) in
    pass_logged h c.args.task.now p q c.args.tally.now _ c.args.log.now c.add.new.self made whole c.requires.fits turns
    (c.in_ok-add.ensures.ok ∙ ap (λ (xs : List LoggedRound). c.args.log.now ++ xs) c.from_vec.ensures)
    (let len = c.len-count.ensures in omega arith)
    (ap₂ (λ x y. c.args.tally.now.gain + (x - y)) c.in_ok-cut.ensures.cost (c.in_ok-after.ensures.after ∙ ap (cost h) (ap (λ (x : Parted). x.blocks) end)))

on_err : {T E X : Type 0} (r : Result T E) → X → OnErr r X
on_err (Ok t) x = tt
on_err (Err e) x = x

nothing_logged : (h : Hyper) (task : Task) (p : Parted) (tally : Tally) (old new : List LoggedRound) → new ≡ old
    → LogsRounds false Flow h task p tally tally old new
nothing_logged h task p tally old new same = record {
  rounds = [];
  log = same ∙ sym (append-nil old);
  pass = tt;
  level = All-nil (λ (r : LoggedRound). r.level ≡ task.level);
  count = omega arith;
  gain = omega arith;
}

pub returns-in_err-add-clause-part : goal.returns-in_err-add-clause-part
returns-in_err-add-clause-part g c =
    on_err c.from_residual-in_err-add.result
    (nothing_logged c.args.h.now c.args.task.now c.args.p c.args.tally.now c.args.log.now c.add.new.self c.in_err-add.ensures.err)
