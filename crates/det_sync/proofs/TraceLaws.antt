-- The law of a whole trace of the mode: a descent, the choice on the file, and the sweeps at the end.
use Rattle.std.proofs.Common.{◌≡◌, ℕ, List, ◌++◌, length, refl, sym, subst}
use Rattle.hg_defs.specs.Hypergraph.{Hyper}
use Rattle.hg_defs.specs.Levels.{coarsest}
use Rattle.round_log.specs.declared.record.Chosen.{Chosen}
use Rattle.round_log.specs.declared.record.LoggedRound.{LoggedRound}
use Rattle.round_log.specs.declared.record.Stop.{Stop}
use Rattle.round_log.specs.declared.record.Trace.{Trace}
use Rattle.round_log.specs.Trace.{AreContracted, IsStop, IsChoice, AreSweeps}
use Rattle.round_log.specs.Deterministic.{IsPairing, IsDetTrace}
use Rattle.det_sync.specs.Descent.{AreDetLevels, IsDetDescent}

-- what `det_descend` answers, with the choice and the sweeps that follow it, is a trace of the mode
pub det_trace : (h : Hyper) (k l seed workers : ℕ) (maps : List (List ℕ)) (stop : Stop) (old new : Trace) (chosen : Chosen) (swept q : List ℕ)
    (sweeps : List LoggedRound)
    → AreDetLevels h k maps stop → IsDetDescent h k l seed workers maps stop old → IsChoice h k old.last chosen swept → AreSweeps h k l swept sweeps q
    → new ≡ record old { chosen = chosen; rounds = old.rounds ++ sweeps } → IsDetTrace h k l seed workers new q
det_trace h k l seed workers maps stop old new chosen swept q sweeps levels d choice settled is =
    subst (λ (t : Trace). IsDetTrace h k l seed workers t q) (sym is) (record {
      start = record { on_level = d.start.on_level; none_above = d.start.none_above; best = d.start.best };
      swept = swept;
      choice = choice;
      descended = record {
        maps = subst (AreContracted (IsPairing k) 0 h k) (sym d.same_maps) levels.contracted;
        stop =
            subst (λ (ms : List (List ℕ)). IsStop (IsPairing k) (length ms) (coarsest h ms) k old.stop) (sym d.same_maps)
            (subst (IsStop (IsPairing k) (length maps) (coarsest h maps) k) (sym d.same_stop) levels.stopped);
        level_rounds = old.rounds;
        sweeps = sweeps;
        rounds_are = refl;
        descent = d.descent;
        settled = settled;
      };
    })
