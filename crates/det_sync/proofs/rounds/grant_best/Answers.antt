use Rattle.std.proofs.Common.{◌∙◌, ℕ, List, length, take, refl, sym, ap, subst, arith}
use Rattle.hg_defs.specs.declared.moves.Move.{Move}
use Rattle.hg_defs.specs.Hypergraph.{Hyper, IsWithinLimits}
use Rattle.hg_defs.specs.Partition.{IsPartition}
use Rattle.hg_defs.specs.Cost.{cost}
use Rattle.hg_defs.specs.Replay.{replay, replay_first, best_prefix}
use Rattle.hg_defs.specs.Synchronous.{sync_moves}
use Rattle.hg_base.proofs.CountLaws.{cost-lt}
use Rattle.hg_defs.proofs.ReplayLaws.{replay_first-all}
use Rattle.pin_plain.specs.Parted.{Parted}
use Rattle.det_sync.specs.Rounds.{IsMostSaved}
use Rattle.det_sync.proofs.RoundLaws.{stays_cost, cost_after_first, whole_moves, most_is_best, makes_inside, few_sync}
use Rattle.det_sync.proofs.rounds.grant_best.Goals as goal

pub best_of-kept-requires : goal.best_of-kept-requires
best_of-kept-requires g c =
    let h = c.args.h.now in
    let p = c.args.p.now in
    let all = sync_moves h p.k p.limit p.blocks in
    let steps = c.as_slice-steps.ensures.value ∙ c.in_ok-moves.ensures in
    let bounds = subst IsWithinLimits c.requires.belongs c.blocks-parted.ensures.parted.bounds in
    stays_cost h p.k p.limit p.blocks (length all) c.args.before bounds c.requires.cost (omega arith) c.as_slice-steps.result.now
    (steps ∙ sym (whole_moves h p.k p.limit p.blocks))

pub gains_of-requires-clause-before : goal.gains_of-requires-clause-before
gains_of-requires-clause-before g c =
    let bounds = subst IsWithinLimits c.requires.belongs c.blocks-parted.ensures.parted.bounds in
    omega (arith, cost-lt c.args.h.now c.args.p.now.blocks bounds, c.requires.cost)

pub gains_of-requires-clause-made : goal.gains_of-requires-clause-made
gains_of-requires-clause-made g c =
    let h = c.args.h.now in
    let p = c.args.p.now in
    let all = sync_moves h p.k p.limit p.blocks in
    let steps = c.as_slice-steps.ensures.value ∙ c.in_ok-moves.ensures in
    let bounds = subst IsWithinLimits c.requires.belongs c.blocks-parted.ensures.parted.bounds in
    let made = cost_after_first h p.k p.limit p.blocks (length all) c.args.before c.best_of-kept.result.2 c.requires.cost (omega arith)
    c.as_slice-steps.result.now (steps ∙ sym (whole_moves h p.k p.limit p.blocks)) c.best_of-kept.ensures.made in
    omega (arith, cost-lt h (replay_first p.blocks all (length all)) bounds, made)

pub make-requires-clause-vertices : goal.make-requires-clause-vertices
make-requires-clause-vertices g c =
    let h = c.args.h.now in
    let p = c.args.p.now in
    let all = sync_moves h p.k p.limit p.blocks in
    let steps = c.as_slice-steps.ensures.value ∙ c.in_ok-moves.ensures in
    (makes_inside h p.k p.limit p.blocks c.best_of-kept.result.0 _ (ap (take c.best_of-kept.result.0) steps)).0

pub make-requires-clause-blocks : goal.make-requires-clause-blocks
make-requires-clause-blocks g c =
    let h = c.args.h.now in
    let p = c.args.p.now in
    let all = sync_moves h p.k p.limit p.blocks in
    let steps = c.as_slice-steps.ensures.value ∙ c.in_ok-moves.ensures in
    (makes_inside h p.k p.limit p.blocks c.best_of-kept.result.0 _ (ap (take c.best_of-kept.result.0) steps)).1

pub overflow_cast-kept : goal.overflow_cast-kept
overflow_cast-kept g c =
    let h = c.args.h.now in
    let p = c.args.p.now in
    let all = sync_moves h p.k p.limit p.blocks in
    let steps = c.as_slice-steps.ensures.value ∙ c.in_ok-moves.ensures in
    let bounds = subst IsWithinLimits c.requires.belongs c.blocks-parted.ensures.parted.bounds in
    let whole = subst (λ (x : Hyper). IsPartition x p.k p.blocks) c.requires.belongs c.blocks-parted.ensures.parted.partition in
    let most = subst (λ (ms : List Move). IsMostSaved ms (length ms) c.best_of-kept.result.0) steps c.best_of-kept.ensures.kept in
    let best = most_is_best h p.k p.limit p.blocks whole c.requires.fits c.best_of-kept.result.0 most in
    let few = few_sync h p.k p.limit p.blocks in
    let within = most.within in
    let vertices = bounds.vertices in
    omega arith

pub returns-clause-partition : goal.returns-clause-partition
returns-clause-partition g c =
    let h = c.args.h.now in
    let p = c.args.p.now in
    let all = sync_moves h p.k p.limit p.blocks in
    let steps = c.as_slice-steps.ensures.value ∙ c.in_ok-moves.ensures in
    let whole = subst (λ (x : Hyper). IsPartition x p.k p.blocks) c.requires.belongs c.blocks-parted.ensures.parted.partition in
    let most = subst (λ (ms : List Move). IsMostSaved ms (length ms) c.best_of-kept.result.0) steps c.best_of-kept.ensures.kept in
    let best = most_is_best h p.k p.limit p.blocks whole c.requires.fits c.best_of-kept.result.0 most in
    c.make.ensures
    ∙ ap (λ (ms : List Move). record p { blocks = replay p.blocks (take c.best_of-kept.result.0 ms) }) steps
    ∙ ap (λ (n : ℕ). record p { blocks = replay p.blocks (take n all) }) best

pub returns-clause-cost : goal.returns-clause-cost
returns-clause-cost g c =
    let h = c.args.h.now in
    let p = c.args.p.now in
    let all = sync_moves h p.k p.limit p.blocks in
    let steps = c.as_slice-steps.ensures.value ∙ c.in_ok-moves.ensures in
    let whole = subst (λ (x : Hyper). IsPartition x p.k p.blocks) c.requires.belongs c.blocks-parted.ensures.parted.partition in
    let most = subst (λ (ms : List Move). IsMostSaved ms (length ms) c.best_of-kept.result.0) steps c.best_of-kept.ensures.kept in
    let best = most_is_best h p.k p.limit p.blocks whole c.requires.fits c.best_of-kept.result.0 most in
    let after = cost_after_first h p.k p.limit p.blocks c.best_of-kept.result.0 c.args.before c.best_of-kept.result.1 c.requires.cost most.within _
    (ap (take c.best_of-kept.result.0) steps) c.best_of-kept.ensures.after in
    after
    ∙ ap (λ (n : ℕ). cost h (replay_first p.blocks all n)) best
    ∙ sym (ap (λ (x : Parted). cost h x.blocks) (returns-clause-partition g c))

pub returns-clause-round : goal.returns-clause-round
returns-clause-round g c =
    let h = c.args.h.now in
    let p = c.args.p.now in
    let all = sync_moves h p.k p.limit p.blocks in
    let steps = c.as_slice-steps.ensures.value ∙ c.in_ok-moves.ensures in
    let whole = subst (λ (x : Hyper). IsPartition x p.k p.blocks) c.requires.belongs c.blocks-parted.ensures.parted.partition in
    let most = subst (λ (ms : List Move). IsMostSaved ms (length ms) c.best_of-kept.result.0) steps c.best_of-kept.ensures.kept in
    let best = most_is_best h p.k p.limit p.blocks whole c.requires.fits c.best_of-kept.result.0 most in
    let made = cost_after_first h p.k p.limit p.blocks (length all) c.args.before c.best_of-kept.result.2 c.requires.cost (omega arith)
    c.as_slice-steps.result.now (steps ∙ sym (whole_moves h p.k p.limit p.blocks)) c.best_of-kept.ensures.made in
    let after = cost_after_first h p.k p.limit p.blocks c.best_of-kept.result.0 c.args.before c.best_of-kept.result.1 c.requires.cost most.within _
    (ap (take c.best_of-kept.result.0) steps) c.best_of-kept.ensures.after in
    let moves = c.from_vec.ensures ∙ c.in_ok-moves.ensures in
    record {
      round = _;
      log = c.in_ok-push.ensures.ok;
      level = refl;
      sync = record {
        kind = refl;
        moves = moves;
        kept = best ∙ ap (best_prefix h p.k p.limit p.blocks) (sym moves);
        gains = c.in_ok-gains.ensures;
        before = c.requires.cost;
        made =
            made
            ∙ ap (cost h) (replay_first-all p.blocks all)
            ∙ ap (λ (ms : List Move). cost h (replay p.blocks ms)) (sym moves);
        after = after ∙ ap (λ (ms : List Move). cost h (replay_first p.blocks ms c.best_of-kept.result.0)) (sym moves);
        untabled = refl;
        no_pair = record { first = refl; second = refl; value = refl; region = c.new.ensures };
      };
    }
