-- Several cycles, one after the other.
use Rattle.std.proofs.Common.{◌≡◌, ◌≢◌, ℕ, ◌+◌, ◌*◌, ◌<◌, ◌^◌, List, [], ◌∷◌, ◌++◌, length, map, All, AllPairs}
use Rattle.std.proofs.Common.{refl, sym, ap, subst, ◌∙◌, arith}
use Rattle.std.proofs.lemmas.List.{append-nil, length-append, length-map}
use Rattle.std.proofs.lemmas.List.Concat.{flat_map-append}
use Rattle.std.proofs.lemmas.List.Elements.{All-map}
use Rattle.hg_defs.specs.Hypergraph.{Hyper}
use Rattle.pin_plain.specs.Parted.{Parted, IsParted}
use Rattle.round_log.specs.declared.record.Kind.{Kind}
use Rattle.round_log.specs.declared.record.LoggedRound.{LoggedRound}
use Rattle.round_log.specs.declared.record.Trace.{Trace}
use Rattle.round_log.specs.TraceLaws.{IsSound, IsSettledPartition}
use Rattle.refiner.specs.declared.pass.Tally.{Tally}
use Rattle.uncoarsen.specs.Refined.{tallies_with}
use Rattle.uncoarsen.proofs.TallyLemmas.{tallies_with-nil, tallies_with-append, all_mapped}
use Rattle.vcycle.specs.Cycles.{IsCycleBy, AreCyclesBy, rounds_of_cycles}
use Rattle.vcycle.proofs.CountLemmas.{cycle_within}

-- ---- one cycle more

cycles_push : (kinds : List Kind) (h : Hyper) (k l workers : ℕ) (traces : List Trace) (trace : Trace) (p mid q : List ℕ)
    → AreCyclesBy kinds h k l workers traces p mid → IsCycleBy kinds h k l workers trace mid q
    → AreCyclesBy kinds h k l workers (traces ++ trace ∷ []) p q
cycles_push kinds h k l workers [] trace p mid q none cycle = (q, subst (λ (x : List ℕ). IsCycleBy kinds h k l workers trace x q) none cycle, refl)
cycles_push kinds h k l workers (t ∷ traces) trace p mid q s cycle =
    (s.0, s.1, cycles_push kinds h k l workers traces trace s.0 mid q s.2 cycle)

rounds_push : (traces : List Trace) (trace : Trace) → rounds_of_cycles (traces ++ trace ∷ []) ≡ rounds_of_cycles traces ++ trace.rounds
rounds_push traces trace =
    flat_map-append (λ (t : Trace). t.rounds) traces (trace ∷ [])
    ∙ ap (λ (rs : List LoggedRound). rounds_of_cycles traces ++ rs) (append-nil trace.rounds)

-- ---- with the refiners, of which a contract sees whether they may run, their kinds and their tallies

-- after so many cycles
pub record Cycling {B : Type 0} (run : B → Type 0) (kind : B → Kind) (tally : B → Tally) (h : Hyper) (k l workers : ℕ) (p : List ℕ) (old : List B) (i : ℕ)
    (g : Hyper) (part : Parted) (boxes : List B) (traces : List Trace) : Type 0 where
  pub may_run : All run boxes
  pub kinds : map kind boxes ≡ map kind old
  pub same : g ≡ h
  pub part_is : part ≡ record { hyper = h; k = k; limit = l; blocks = part.blocks }
  pub sound : IsSound h k l part.blocks
  pub count : length traces ≡ i
  pub cycles : AreCyclesBy (map kind old) h k l workers traces p part.blocks
  pub counted : map tally boxes ≡ tallies_with (rounds_of_cycles traces) (map kind old) (map tally old)
  pub low : All (λ (b : B). ((tally b).rounds < 2 ^ 60 + i * 2 ^ 57) × ((tally b).gain < 2 ^ 60 + i * 2 ^ 57)) boxes

module _ {B : Type 0} (run : B → Type 0) (kind : B → Kind) (tally : B → Tally) (h : Hyper) (k l workers : ℕ) (old : List B) where
  pub cycling_begin : (part : Parted) → All run old → part ≡ record { hyper = h; k = k; limit = l; blocks = part.blocks } → IsSound h k l part.blocks
      → All (λ (b : B). ((tally b).rounds < 2 ^ 60) × ((tally b).gain < 2 ^ 60)) old → (traces : List Trace) → traces ≡ []
      → Cycling run kind tally h k l workers part.blocks old 0 h part old traces
  cycling_begin part may_run part_is sound low traces none =
      subst (Cycling run kind tally h k l workers part.blocks old 0 h part old) (sym none) (record {
        may_run = may_run;
        kinds = refl;
        same = refl;
        part_is = part_is;
        sound = sound;
        count = refl;
        cycles = refl;
        counted = sym (tallies_with-nil (map kind old) (map tally old) (length-map old kind ∙ sym (length-map old tally)));
        low = λ i d below.
            let here = low i d below in
            let rounds = here.0 in
            let gain = here.1 in
            (omega arith, omega arith);
      })

  module _ (p : List ℕ) (i : ℕ) (g : Hyper) (part : Parted) (boxes : List B) (traces : List Trace)
      (done : Cycling run kind tally h k l workers p old i g part boxes traces)
    where
      -- what the next cycle asks for
      pub cycling_belongs : part ≡ record { hyper = g; k = k; limit = l; blocks = part.blocks }
      cycling_belongs =
          subst (λ (x : Hyper). part ≡ record { hyper = x; k = k; limit = l; blocks = part.blocks }) (sym done.same) done.part_is

      pub cycling_sound : IsSound g k l part.blocks
      cycling_sound = subst (λ (x : Hyper). IsSound x k l part.blocks) (sym done.same) done.sound

      pub cycling_kinds : AllPairs (λ (a b : Kind). a ≢ b) (map kind old) → AllPairs (λ (a b : Kind). a ≢ b) (map kind boxes)
      cycling_kinds = subst (AllPairs (λ (a b : Kind). a ≢ b)) (sym done.kinds)

      pub cycling_low : i < 8 → All (λ (b : B). ((tally b).rounds < 2 ^ 61) × ((tally b).gain < 2 ^ 61)) boxes
      cycling_low few j d below =
          let here = done.low j d below in
          let rounds = here.0 in
          let gain = here.1 in
          (omega arith, omega arith)

      -- and what stands after it
      module _ (start : List ℕ) (parted : IsParted h k start) (differ : AllPairs (λ (a b : Kind). a ≢ b) (map kind old)) (boxes' : List B) (g' : Hyper)
          (part' : Parted) (trace : Trace) (may_run : All run boxes') (kinds : map kind boxes' ≡ map kind boxes) (same : g' ≡ g)
          (part_is : part' ≡ record { hyper = g; k = k; limit = l; blocks = part'.blocks })
          (told : IsCycleBy (map kind boxes) g k l workers trace part.blocks part'.blocks) (settled : IsSettledPartition g k l part'.blocks)
          (tallies : map tally boxes' ≡ tallies_with trace.rounds (map kind boxes) (map tally boxes))
        where
          cycle : IsCycleBy (map kind old) h k l workers trace part.blocks part'.blocks
          cycle =
              subst (λ (x : Hyper). IsCycleBy (map kind old) x k l workers trace part.blocks part'.blocks) done.same
              (subst (λ (ks : List Kind). IsCycleBy ks g k l workers trace part.blocks part'.blocks) done.kinds told)

          tallies_are : map tally boxes' ≡ tallies_with trace.rounds (map kind old) (map tally boxes)
          tallies_are = tallies ∙ ap (λ (ks : List Kind). tallies_with trace.rounds ks (map tally boxes)) done.kinds

          low : All (λ (b : B). ((tally b).rounds < 2 ^ 60 + (i + 1) * 2 ^ 57) × ((tally b).gain < 2 ^ 60 + (i + 1) * 2 ^ 57)) boxes'
          low j d below =
              let all = all_mapped (λ (t : Tally). (t.rounds < 2 ^ 60 + i * 2 ^ 57 + 2 ^ 57) × (t.gain < 2 ^ 60 + i * 2 ^ 57 + 2 ^ 57)) tally boxes'
              (subst (All (λ (t : Tally). (t.rounds < 2 ^ 60 + i * 2 ^ 57 + 2 ^ 57) × (t.gain < 2 ^ 60 + i * 2 ^ 57 + 2 ^ 57))) (sym tallies_are)
              (cycle_within (map kind old) h k l workers trace part.blocks part'.blocks parted.sound parted.bounds parted.few differ done.sound cycle
              (2 ^ 60 + i * 2 ^ 57) (map tally boxes)
              (All-map (λ (t : Tally). (t.rounds < 2 ^ 60 + i * 2 ^ 57) × (t.gain < 2 ^ 60 + i * 2 ^ 57)) tally boxes done.low))) in
              let here = all j d below in
              let rounds = here.0 in
              let gain = here.1 in
              (omega arith, omega arith)

          pub cycling_more : (traces' : List Trace) → traces' ≡ traces ++ trace ∷ []
              → Cycling run kind tally h k l workers p old (i + 1) g' part' boxes' traces'
          cycling_more traces' pushed =
              subst (Cycling run kind tally h k l workers p old (i + 1) g' part' boxes') (sym pushed) (record {
                may_run = may_run;
                kinds = kinds ∙ done.kinds;
                same = same ∙ done.same;
                part_is = subst (λ (x : Hyper). part' ≡ record { hyper = x; k = k; limit = l; blocks = part'.blocks }) done.same part_is;
                sound = subst (λ (x : Hyper). IsSound x k l part'.blocks) done.same settled.sound;
                count = let e = done.count in let long = length-append traces (trace ∷ []) in omega arith;
                cycles = cycles_push (map kind old) h k l workers traces trace p part.blocks part'.blocks done.cycles cycle;
                counted =
                    tallies_are
                    ∙ ap (tallies_with trace.rounds (map kind old)) done.counted
                    ∙ sym (tallies_with-append (rounds_of_cycles traces) trace.rounds (map kind old) (map tally old))
                    ∙ ap (λ (rs : List LoggedRound). tallies_with rs (map kind old) (map tally old)) (sym (rounds_push traces trace));
                low = low;
              })
