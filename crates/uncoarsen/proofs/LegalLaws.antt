-- The laws of whole descents by refiners of given kinds, and a run's trace put together.
use Rattle.std.proofs.Common.{◌≡◌, ℕ, zero, suc, List, [], ◌∷◌, ◌++◌, length, refl, sym, ap, subst, ◌∙◌}
use Rattle.std.proofs.lemmas.List.{append-nil, append_assoc}
use Rattle.hg_defs.specs.Hypergraph.{Hyper}
use Rattle.hg_defs.specs.Contraction.{after}
use Rattle.hg_defs.specs.Levels.{level, coarsest, map_of}
use Rattle.hg_defs.specs.Placement.{named}
use Rattle.hg_defs.proofs.NamedLaws.{none_is_cheapest}
use Rattle.round_log.specs.declared.record.Kind.{Kind}
use Rattle.round_log.specs.declared.record.Kind.TheVariants.{Label, Search, Flow}
use Rattle.round_log.specs.declared.record.Stop.{Stop}
use Rattle.round_log.specs.declared.record.LoggedRound.{LoggedRound}
use Rattle.round_log.specs.declared.record.Trace.{Trace}
use Rattle.round_log.specs.Passes.{IsPass}
use Rattle.round_log.specs.Trace.{IsRefined, IsTraced, Refined, IsDescent, AreContracted, IsStop, IsGoodClustering, limit_of}
use Rattle.round_log.specs.TraceLaws.{IsPlaceableWithin, IsSound}
use Rattle.round_log.proofs.DescentLaws.{chosen_sound, swept_settled}
use Rattle.round_log.proofs.TraceLaws.{last_sound, ends_settled, ends_below_last, ends_below_greedy}
use Rattle.level_stack.specs.Stack.{Stack}
use Rattle.uncoarsen.specs.Start.{IsStartAt}
use Rattle.uncoarsen.specs.Settled.{SettlesBest}
use Rattle.uncoarsen.specs.Refined.{IsRefinedBy, IsRefinedDown}
use Rattle.uncoarsen.specs.RefinedLaws.{EndsSettled, RefinersRaiseNoCost, EndsBelowLast, EndsBelowGreedy, ThreeKindsRefine, ThreeKindsAreLegal}
use Rattle.uncoarsen.proofs.PassesLaws.{refined_by_leaves, after-append}

-- ---- for any kinds

pub kinds-settled : EndsSettled
kinds-settled kinds h job trace q ready legal =
    ends_settled (IsRefinedBy kinds job.k (limit_of h job) job.workers) h job.k (limit_of h job) job.seed trace q
    (refined_by_leaves kinds job.k (limit_of h job) job.workers) ready legal

pub kinds-no_dearer : RefinersRaiseNoCost
kinds-no_dearer kinds h job trace q ready legal =
    (last_sound (IsRefinedBy kinds job.k (limit_of h job) job.workers) h job.k (limit_of h job) job.seed trace q
    (refined_by_leaves kinds job.k (limit_of h job) job.workers) ready legal).1

pub kinds-below_last : EndsBelowLast
kinds-below_last kinds h job trace q ready legal =
    ends_below_last (IsRefinedBy kinds job.k (limit_of h job) job.workers) h job.k (limit_of h job) job.seed trace q
    (refined_by_leaves kinds job.k (limit_of h job) job.workers) ready legal

pub kinds-below_greedy : EndsBelowGreedy
kinds-below_greedy kinds h job trace q ready legal =
    ends_below_greedy (IsRefinedBy kinds job.k (limit_of h job) job.workers) h job.k (limit_of h job) job.seed trace q
    (refined_by_leaves kinds job.k (limit_of h job) job.workers) ready legal

-- ---- for label propagation, searches and flows

module _ (k l workers number : ℕ) (h : Hyper) (p : List ℕ) (rounds : List LoggedRound) (q : List ℕ) where
  three_to : IsRefinedBy (Label ∷ Search ∷ Flow ∷ []) k l workers number h p rounds q → IsRefined k l workers number h p rounds q
  three_to s =
      let label_rounds = s.passes.0 in
      let more = s.passes.4 in
      let search_rounds = more.0 in
      let last = more.4 in
      let flow_rounds = last.0 in
      record {
        label_rounds = label_rounds;
        search_rounds = search_rounds;
        flow_rounds = flow_rounds;
        rounds_are =
            s.passes.2
            ∙ ap (λ (rs : List LoggedRound). label_rounds ++ rs)
            (more.2 ∙ ap (λ (rs : List LoggedRound). search_rounds ++ rs)
            (last.2 ∙ ap (λ (rs : List LoggedRound). flow_rounds ++ rs) last.4 ∙ append-nil flow_rounds))
            ∙ sym (append_assoc label_rounds search_rounds flow_rounds);
        bear_level = s.bear_level;
        label = s.passes.3;
        search = more.3;
        flow =
            subst (λ (r : List ℕ). IsPass Flow h k l workers r flow_rounds) (sym (after-append p label_rounds search_rounds)) last.3;
        result = s.result;
      }

  three_from : IsRefined k l workers number h p rounds q → IsRefinedBy (Label ∷ Search ∷ Flow ∷ []) k l workers number h p rounds q
  three_from s = record {
    bear_level = s.bear_level;
    passes = (
      s.label_rounds,
      s.search_rounds ++ s.flow_rounds,
      s.rounds_are ∙ append_assoc s.label_rounds s.search_rounds s.flow_rounds,
      s.label,
      (
        s.search_rounds,
        s.flow_rounds,
        refl,
        s.search,
        (
          s.flow_rounds,
          [],
          sym (append-nil s.flow_rounds),
          subst (λ (r : List ℕ). IsPass Flow h k l workers r s.flow_rounds) (after-append p s.label_rounds s.search_rounds) s.flow,
          refl,
        ),
      ),
    );
    result = s.result;
  }

pub three_kinds_refine : ThreeKindsRefine
three_kinds_refine k l workers number h p rounds q = (three_to k l workers number h p rounds q, three_from k l workers number h p rounds q)

-- a descent whose levels may also be refined in another way
module _ (refined other : Refined)
    (turned : (number : ℕ) (h : Hyper) (p : List ℕ) (rounds : List LoggedRound) (q : List ℕ) → refined number h p rounds q → other number h p rounds q)
  where
    pub descent_by : (h : Hyper) (maps : List (List ℕ)) (i : ℕ) (p : List ℕ) (rounds : List LoggedRound) (q : List ℕ) → IsDescent refined h maps i p rounds q
        → IsDescent other h maps i p rounds q
    descent_by h maps zero p rounds q d = turned 0 h p rounds q d
    descent_by h maps (suc i) p rounds q d =
        (d.0, d.1, d.2, d.3, turned (suc i) (level h maps (suc i)) p d.0 d.2 d.4, descent_by h maps i (after d.2 (map_of maps i)) d.1 q d.5)

    traced_by : (h : Hyper) (k l seed : ℕ) (trace : Trace) (q : List ℕ) → IsTraced refined h k l seed trace q → IsTraced other h k l seed trace q
    traced_by h k l seed trace q t = record {
      start = t.start;
      swept = t.swept;
      choice = t.choice;
      descended = record {
        maps = t.descended.maps;
        stop = t.descended.stop;
        level_rounds = t.descended.level_rounds;
        sweeps = t.descended.sweeps;
        rounds_are = t.descended.rounds_are;
        descent = descent_by h trace.maps trace.start trace.first t.descended.level_rounds trace.last t.descended.descent;
        settled = t.descended.settled;
      };
      last_obeys = t.last_obeys;
      obeys = t.obeys;
    }

pub three_kinds_are_legal : ThreeKindsAreLegal
three_kinds_are_legal h job trace q = (
  traced_by (IsRefinedBy (Label ∷ Search ∷ Flow ∷ []) job.k (limit_of h job) job.workers) (IsRefined job.k (limit_of h job) job.workers)
      (three_to job.k (limit_of h job) job.workers) h job.k (limit_of h job) job.seed trace q,
  traced_by (IsRefined job.k (limit_of h job) job.workers) (IsRefinedBy (Label ∷ Search ∷ Flow ∷ []) job.k (limit_of h job) job.workers)
      (three_from job.k (limit_of h job) job.workers) h job.k (limit_of h job) job.seed trace q,
)

-- ---- a run's trace, of what the coarsening, the start, the way down and the end tell

module _ (kinds : List Kind) (s : Stack) (stop : Stop) (number : ℕ) (placed : List ℕ) (k l seed workers : ℕ) (old new : Trace) (q : List ℕ)
    (ready : IsPlaceableWithin s.base k l) (contracted : AreContracted (IsGoodClustering k) 0 s.base k s.maps)
    (stopped : IsStop (IsGoodClustering k) (length s.maps) (coarsest s.base s.maps) k stop) (start : IsStartAt s k l seed number placed)
    (down : IsRefinedDown kinds s stop number placed k l workers old) (sound : IsSound s.base k l old.last)
    (best : SettlesBest s.base k l old new q)
  where
    -- the trace before the end, with the choice and the sweeps
    abbrev ended : Trace
    ended = record old { chosen = new.chosen; rounds = old.rounds ++ best.sweeps }

    abbrev whole : Trace
    whole = record ended { maps = s.maps; stop = stop; start = number; first = placed }

    new_is : new ≡ whole
    new_is =
        best.trace
        ∙ ap (λ (x : List (List ℕ)). let t : Trace = record ended { maps = x } in t) down.maps
        ∙ ap (λ (x : Stop). let t : Trace = record ended { maps = s.maps; stop = x } in t) down.same_stop
        ∙ ap (λ (x : ℕ). let t : Trace = record ended { maps = s.maps; stop = stop; start = x } in t) down.start
        ∙ ap (λ (x : List ℕ). let t : Trace = record ended { maps = s.maps; stop = stop; start = number; first = x } in t) down.first

    whole_traced : IsTraced (IsRefinedBy kinds k l workers) s.base k l seed whole q
    whole_traced = record {
      start = record {
        on_level = start.on_level;
        none_above = λ i above within.
            none_is_cheapest (level s.base s.maps i) k l (named (level s.base s.maps i) k seed) (start.none_above i above within);
        partition = start.partition;
        fits = start.fits;
        obeys = start.obeys;
        cheapest = start.cheapest;
      };
      swept = best.swept;
      choice = best.choice;
      descended = record {
        maps = contracted;
        stop = stopped;
        level_rounds = old.rounds;
        sweeps = best.sweeps;
        rounds_are = refl;
        descent = down.descent;
        settled = best.settled;
      };
      last_obeys = sound.obeys;
      obeys =
          (swept_settled s.base k l best.swept best.sweeps q
          (chosen_sound s.base k l ready old.last sound best.swept new.chosen best.choice).0 best.settled).sound.obeys;
    }

    pub traced : IsTraced (IsRefinedBy kinds k l workers) s.base k l seed new q
    traced = subst (λ (t : Trace). IsTraced (IsRefinedBy kinds k l workers) s.base k l seed t q) (sym new_is) whole_traced
