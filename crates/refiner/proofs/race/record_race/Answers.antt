use Rattle.std.proofs.Common.{List, ℤ, pos, ◌-ℤ◌, nat_abs, refl, sym, ap, ap₂, ◌∙◌, subst, arith}
use Rattle.std.proofs.lemmas.Int.{ints}
use Rattle.hg_defs.specs.Sums.{total_z}
use Rattle.hg_defs.specs.Hypergraph.{Hyper, IsWithinLimits}
use Rattle.hg_defs.specs.Partition.{IsPartition, Fits}
use Rattle.hg_defs.specs.Cost.{cost}
use Rattle.hg_defs.specs.Replay.{undone, replay_first, best_prefix}
use Rattle.hg_defs.specs.declared.moves.Move.{Move}
use Rattle.hg_base.proofs.CountLaws.{cost-lt}
use Rattle.refiner.proofs.RaceLaws.{made_is, after_is, replayed_again}
use Rattle.refiner.proofs.race.record_race.Goals as goal

pub overflow_sub-made : goal.overflow_sub-made
overflow_sub-made g c =
    let whole = subst (λ (x : Hyper). IsPartition x c.args.part.now.k c.args.part.now.blocks) c.requires.belongs c.blocks-parted.ensures.parted.partition in
    let bounds = subst IsWithinLimits c.requires.belongs c.blocks-parted.ensures.parted.bounds in
    let opening = undone c.args.part.now.blocks c.args.moves in
    let o = cost-lt c.args.h.now opening bounds in
    let m = cost-lt c.args.h.now c.args.part.now.blocks bounds in
    let sum = c.sum_of.ensures ∙ ap (total_z (λ (g : ℤ). g)) c.slice.ensures ∙ c.requires.sum in
    let exact = made_is c.from.result c.sum_of.result (cost c.args.h.now opening) (cost c.args.h.now c.args.part.now.blocks) c.args.before
    c.from.ensures c.requires.before sum o m in
    let a = c.from.ensures in
    let b = c.requires.before in
    omega (arith, ints)

pub overflow_cast-made : goal.overflow_cast-made
overflow_cast-made g c =
    let whole = subst (λ (x : Hyper). IsPartition x c.args.part.now.k c.args.part.now.blocks) c.requires.belongs c.blocks-parted.ensures.parted.partition in
    let bounds = subst IsWithinLimits c.requires.belongs c.blocks-parted.ensures.parted.bounds in
    let opening = undone c.args.part.now.blocks c.args.moves in
    let o = cost-lt c.args.h.now opening bounds in
    let m = cost-lt c.args.h.now c.args.part.now.blocks bounds in
    let sum = c.sum_of.ensures ∙ ap (total_z (λ (g : ℤ). g)) c.slice.ensures ∙ c.requires.sum in
    let exact = made_is c.from.result c.sum_of.result (cost c.args.h.now opening) (cost c.args.h.now c.args.part.now.blocks) c.args.before
    c.from.ensures c.requires.before sum o m in
    rw exact (omega (arith, ints), omega (arith, ints))

pub returns-clause-round : goal.returns-clause-round
returns-clause-round g c =
    let whole = subst (λ (x : Hyper). IsPartition x c.args.part.now.k c.args.part.now.blocks) c.requires.belongs c.blocks-parted.ensures.parted.partition in
    let bounds = subst IsWithinLimits c.requires.belongs c.blocks-parted.ensures.parted.bounds in
    let opening = undone c.args.part.now.blocks c.args.moves in
    let o = cost-lt c.args.h.now opening bounds in
    let m = cost-lt c.args.h.now c.args.part.now.blocks bounds in
    let sum = c.sum_of.ensures ∙ ap (total_z (λ (g : ℤ). g)) c.slice.ensures ∙ c.requires.sum in
    let exact = made_is c.from.result c.sum_of.result (cost c.args.h.now opening) (cost c.args.h.now c.args.part.now.blocks) c.args.before
    c.from.ensures c.requires.before sum o m in
    let before = c.requires.before in
    let made = ap nat_abs exact in
    let again = replayed_again c.args.h.now c.args.part.now.k c.args.part.now.blocks c.args.moves whole c.requires.stands in
    record {
      tabled = refl;
      same_kind = refl;
      same_level = refl;
      same_moves = refl;
      same_gains = refl;
      raced = record {
        moves = c.requires.raced;
        sum = c.requires.sum ∙ ap₂ (λ x y. pos x -ℤ pos y) (sym before) (sym made);
        before = before;
        made = made ∙ ap (cost c.args.h.now) (sym again);
        fits = subst (Fits c.args.h.now c.args.part.now.k c.args.part.now.limit) (sym again) c.requires.fits;
        kept = c.in_ok-kept.ensures.length ∙ ap (λ (xs : List Move). best_prefix c.args.h.now c.args.part.now.k c.args.part.now.limit
            (undone c.args.part.now.blocks xs) xs) c.slice-3.ensures;
        after = after_is c.in_ok-kept.kept.saved (cost c.args.h.now opening) (cost c.args.h.now (replay_first opening c.args.moves
            c.in_ok-kept.kept.length)) _ before (c.in_ok-kept.ensures.saved ∙ ap (λ (xs : List Move). pos (cost c.args.h.now
            (undone c.args.part.now.blocks xs)) -ℤ pos (cost c.args.h.now
            (replay_first (undone c.args.part.now.blocks xs) xs c.in_ok-kept.kept.length))) c.slice-3.ensures);
        no_pair = record { first = refl; second = refl; value = refl; region = c.new.ensures };
      };
    }
