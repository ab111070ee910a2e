-- The round that is logged, raced or of a single move.
use Rattle.std.proofs.Common.{◌∷◌, [], ◌++◌, List, ap, subst, sym, ◌∙◌}
use Rattle.std.proofs.lemmas.Result.{IfOk-weaker}
use Rattle.hg_defs.specs.Hypergraph.{Hyper}
use Rattle.hg_defs.specs.Cost.{cost}
use Rattle.pin_plain.specs.Parted.{Parted, IsParted}
use Rattle.round_log.specs.declared.record.Kind.TheVariants.{Search}
use Rattle.round_log.specs.declared.record.LoggedRound.{LoggedRound}
use Rattle.refiner.specs.Racing.{LogsRace}
use Rattle.fm_search.specs.Logging.{LogsSearchRound}
use Rattle.fm_search.proofs.LogLaws.{raced_logged, unmoved, single_logged, possible_at, some_moves, no_moves}
use Rattle.fm_search.proofs.pass.log_round.Goals as goal

pub returns-then-not-is_empty-clause-round : goal.returns-then-not-is_empty-clause-round
returns-then-not-is_empty-clause-round g c =
    let parted = subst (λ (x : Hyper). IsParted x c.args.p.k c.args.p.blocks) c.requires.belongs c.blocks-parted.ensures.parted in
    IfOk-weaker c.race-then-not-is_empty.result
    (λ q. LogsRace Search c.args.task.now.level c.args.h.now c.in_ok-closed.closed c.args.log.now c.race-then-not-is_empty.new.self q)
    (λ q. LogsSearchRound c.args.h.now c.args.task.now c.args.p q c.args.log.now c.race-then-not-is_empty.new.self)
    (λ q s. raced_logged c.args.h.now c.args.task.now c.args.p parted c.requires.fits c.in_ok-closed.closed c.in_ok-closed.ensures.opening
    c.in_ok-closed.ensures.part c.in_ok-closed.ensures.gains
    (some_moves c.moves.result.now c.in_ok-closed.closed.moves c.moves.ensures (sym c.is_empty.ensures ∙ c.if-not-is_empty.true)) q c.args.log.now
    c.race-then-not-is_empty.new.self s)
    c.race-then-not-is_empty.ensures.ok

pub unreachable-requires : goal.unreachable-requires
unreachable-requires g c =
    let parted = subst (λ (x : Hyper). IsParted x c.args.p.k c.args.p.blocks) c.requires.belongs c.blocks-parted.ensures.parted in
    c.in_default.ensures.none (possible_at c.args.h.now c.args.p c.into_part-part.result
    (c.into_part-part.ensures ∙ unmoved c.args.h.now c.args.task.now c.args.p parted c.requires.fits c.in_ok-closed.closed c.in_ok-closed.ensures.opening
    c.in_ok-closed.ensures.part (no_moves c.moves.result.now c.in_ok-closed.closed.moves c.moves.ensures (sym c.is_empty.ensures ∙ c.if-not-is_empty.false)))
    c.requires.possible)

pub single_round-requires-clause-before : goal.single_round-requires-clause-before
single_round-requires-clause-before g c κs within =
    let parted = subst (λ (x : Hyper). IsParted x c.args.p.k c.args.p.blocks) c.requires.belongs c.blocks-parted.ensures.parted in
    c.requires.cost ∙ ap (λ (x : Parted). cost c.args.h.now x.blocks)
    (sym (c.into_part-part.ensures ∙ unmoved c.args.h.now c.args.task.now c.args.p parted c.requires.fits c.in_ok-closed.closed c.in_ok-closed.ensures.opening
    c.in_ok-closed.ensures.part (no_moves c.moves.result.now c.in_ok-closed.closed.moves c.moves.ensures (sym c.is_empty.ensures ∙ c.if-not-is_empty.false))))

pub returns-clause-round : goal.returns-clause-round
returns-clause-round g c =
    let parted = subst (λ (x : Hyper). IsParted x c.args.p.k c.args.p.blocks) c.requires.belongs c.blocks-parted.ensures.parted in
    single_logged c.args.h.now c.args.task.now c.args.p parted c.requires.fits c.into_part-part.result c.single_round.new.p
    (c.into_part-part.ensures ∙ unmoved c.args.h.now c.args.task.now c.args.p parted c.requires.fits c.in_ok-closed.closed c.in_ok-closed.ensures.opening
    c.in_ok-closed.ensures.part (no_moves c.moves.result.now c.in_ok-closed.closed.moves c.moves.ensures (sym c.is_empty.ensures ∙ c.if-not-is_empty.false)))
    c.in_ok-round.round c.in_ok-round.ensures.round c.in_ok-round.ensures.partition c.args.log.now c.add.new.self
    (c.in_ok-add.ensures.ok ∙ ap (λ (xs : List LoggedRound). c.args.log.now ++ xs) (c.in_ok-push.ensures.ok
    ∙ ap (λ (xs : List LoggedRound). xs ++ c.in_ok-round.round ∷ []) c.new-rounds.ensures))
