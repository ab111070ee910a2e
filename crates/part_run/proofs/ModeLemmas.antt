-- What runs end with in either mode, and that their traces can be printed.
use Rattle.std.proofs.Common.{◌≡◌, ℕ, ◌++◌, ◌≤◌, List, [], length, All, refl, sym, ap, subst, ◌∙◌, arith}
use Rattle.std.proofs.lemmas.List.Elements.{All-nil}
use Rattle.hg_defs.specs.Hypergraph.{Hyper}
use Rattle.round_log.specs.declared.record.Kind.{Kind}
use Rattle.round_log.specs.declared.record.Stop.{Stop}
use Rattle.round_log.specs.declared.record.Job.{Job}
use Rattle.round_log.specs.declared.record.LoggedRound.{LoggedRound}
use Rattle.round_log.specs.declared.record.Trace.{Trace}
use Rattle.round_log.specs.Trace.{limit_of}
use Rattle.round_log.specs.Deterministic.{IsDetRefined, IsDetTrace}
use Rattle.round_log.specs.TraceLaws.{IsPlaceableFor, IsSettledPartition}
use Rattle.round_log.proofs.DetLaws.{trace_at_function, det-legal, det-settled, det-below_greedy}
use Rattle.level_stack.specs.Stack.{Stack}
use Rattle.uncoarsen.specs.Settled.{SettlesBest}
use Rattle.refiner.specs.declared.pass.Tally.{Tally}
use Rattle.uncoarsen.specs.Refined.{IsRefinedBy, IsLegalBy, tallies_with}
use Rattle.uncoarsen.proofs.TallyLemmas.{tallies_with-append}
use Rattle.uncoarsen.proofs.LegalLaws.{kinds-settled, kinds-below_greedy}
use Rattle.det_sync.specs.Descent.{AreDetLevels, IsDetDescent}
use Rattle.det_sync.proofs.TraceLaws.{det_trace}
use Rattle.vcycle.specs.Cycles.{AreCyclesBy}
use Rattle.vcycle.proofs.CycleLaws.{cycles_settled, cycles_no_dearer, cycles_levels}
use Rattle.trace_text.specs.Report.{IsPrintable}
use Rattle.part_run.specs.declared.words.Mode.{Mode}
use Rattle.part_run.specs.declared.words.Mode.TheVariants.{Raced, Deterministic}
use Rattle.part_run.specs.Answers.{IsGoodPartition, IsRacedRun, IsDeterminedRun, IsReachedIn, SparesIn}
use Rattle.part_run.proofs.LevelLemmas.{traced_printable, settles_told}

module _ (kinds : List Kind) (count : ℕ) (job : Job) (h : Hyper) (trace : Trace) (cycles : List Trace) (q : List ℕ) (ready : IsPlaceableFor h job)
    (raced : IsRacedRun kinds count job h trace cycles q)
  where
    -- before the cycles
    before_settled : IsSettledPartition h job.k (limit_of h job) raced.reached
    before_settled = kinds-settled kinds h job trace raced.reached ready raced.legal

    pub raced_good : IsGoodPartition job h q
    raced_good =
        let end = cycles_settled kinds h job.k (limit_of h job) job.workers cycles raced.reached q ready.hypergraph before_settled raced.led in
        let less = cycles_no_dearer kinds h job.k (limit_of h job) job.workers cycles raced.reached q ready.hypergraph before_settled.sound raced.led in
        let first = kinds-below_greedy kinds h job trace raced.reached ready raced.legal in
        record {
          placed = ready.placed;
          partition = end.sound.partition;
          obeys = end.sound.obeys;
          fits = end.sound.fits;
          settled = end.settled;
          no_dearer = omega arith;
        }

    raced_printable : IsPrintable h job.k trace
    raced_printable =
        traced_printable (IsRefinedBy kinds job.k (limit_of h job) job.workers) job h trace raced.reached ready raced.legal

    raced_cycles_printable : All (IsPrintable h job.k) cycles
    raced_cycles_printable = λ i d low.
        let levels = cycles_levels kinds h job.k (limit_of h job) job.workers cycles raced.reached q ready.hypergraph before_settled.sound raced.led i d low in
        record { start = levels.0; levels = levels.1; first = levels.2 }

-- a descent and the cycles after it, told in other words
pub raced_told : (kinds kinds' : List Kind) (count : ℕ) (job : Job) (h g : Hyper) (l : ℕ) (trace : Trace) (cycles : List Trace) (p q : List ℕ)
    → kinds' ≡ kinds → g ≡ h → l ≡ limit_of h job → IsLegalBy kinds h job trace p → AreCyclesBy kinds' g job.k l job.workers cycles p q
    → length cycles ≡ count → IsRacedRun kinds count job h trace cycles q
raced_told kinds kinds' count job h g l trace cycles p q same_kinds same_h is legal led counted = record {
  reached = p;
  legal = legal;
  led =
      subst (λ (x : List Kind). AreCyclesBy x h job.k (limit_of h job) job.workers cycles p q) same_kinds
      (subst (λ (x : Hyper). AreCyclesBy kinds' x job.k (limit_of h job) job.workers cycles p q) same_h
      (subst (λ (x : ℕ). AreCyclesBy kinds' g job.k x job.workers cycles p q) is led));
  counted = counted;
}

-- what they tally together
pub tallies_joined : (xs ys : List LoggedRound) (kinds kinds' : List Kind) (ts us : List Tally) → kinds' ≡ kinds → us ≡ tallies_with xs kinds ts
    → tallies_with ys kinds' us ≡ tallies_with (xs ++ ys) kinds ts
tallies_joined xs ys kinds kinds' ts us same is =
    ap (λ (x : List Kind). tallies_with ys x us) same ∙ ap (tallies_with ys kinds) is ∙ sym (tallies_with-append xs ys kinds ts)

pub spares_same : (mode : Mode) (ts : List Tally) → SparesIn mode ts ts
spares_same (Raced count) ts = tt
spares_same Deterministic ts = refl

module _ (job : Job) (h : Hyper) (ready : IsPlaceableFor h job) where
  pub determined_good : (trace : Trace) (cycles : List Trace) (q : List ℕ) → IsDeterminedRun job h trace cycles q → IsGoodPartition job h q
  determined_good trace cycles q by =
      let end = det-settled h job trace q ready by.legal in record {
        placed = ready.placed;
        partition = end.sound.partition;
        obeys = end.sound.obeys;
        fits = end.sound.fits;
        settled = end.settled;
        no_dearer = det-below_greedy h job trace q ready by.legal;
      }

  -- what the levels, the descent and the end tell of h
  pub determined : (s : Stack) (stop : Stop) (g : Hyper) (l k' l' : ℕ) (old new : Trace) (q : List ℕ) → 1 ≤ job.workers → l ≡ limit_of h job → s.base ≡ h
      → g ≡ s.base → k' ≡ job.k → l' ≡ l → AreDetLevels h job.k s.maps stop → IsDetDescent s.base job.k l job.seed job.workers s.maps stop old
      → SettlesBest g k' l' old new q → IsDeterminedRun job h new [] q
  determined s stop g l k' l' old new q working is base same_g same_k same_l levels down best = record {
    function = trace_at_function h job.k (limit_of h job) job.seed job.workers new q recorded_is;
    recorded = recorded_is;
    legal = det-legal h job new q ready (omega arith) recorded_is;
    uncycled = refl;
  }
    where
      end : SettlesBest h job.k (limit_of h job) old new q
      end = settles_told h g job.k k' (limit_of h job) l' old new q (same_g ∙ base) same_k (same_l ∙ is) best

      down_is : IsDetDescent h job.k (limit_of h job) job.seed job.workers s.maps stop old
      down_is =
          subst (λ (x : Hyper). IsDetDescent x job.k (limit_of h job) job.seed job.workers s.maps stop old) base
          (subst (λ (x : ℕ). IsDetDescent s.base job.k x job.seed job.workers s.maps stop old) is down)

      recorded_is : IsDetTrace h job.k (limit_of h job) job.seed job.workers new q
      recorded_is =
          det_trace h job.k (limit_of h job) job.seed job.workers s.maps stop old new new.chosen end.swept q end.sweeps levels down_is end.choice
          end.settled end.trace

  pub reached_printable : (mode : Mode) (kinds : List Kind) (trace : Trace) (cycles : List Trace) (q : List ℕ)
      → IsReachedIn mode kinds job h trace cycles q → IsPrintable h job.k trace
  reached_printable (Raced count) kinds trace cycles q by = raced_printable kinds count job h trace cycles q ready by
  reached_printable Deterministic kinds trace cycles q by =
      traced_printable (IsDetRefined job.k (limit_of h job) job.workers) job h trace q ready by.legal

  pub reached_cycles_printable : (mode : Mode) (kinds : List Kind) (trace : Trace) (cycles : List Trace) (q : List ℕ)
      → IsReachedIn mode kinds job h trace cycles q → All (IsPrintable h job.k) cycles
  reached_cycles_printable (Raced count) kinds trace cycles q by = raced_cycles_printable kinds count job h trace cycles q ready by
  reached_cycles_printable Deterministic kinds trace cycles q by =
      subst (λ (cs : List Trace). All (IsPrintable h job.k) cs) (sym by.uncycled) (All-nil (IsPrintable h job.k))
