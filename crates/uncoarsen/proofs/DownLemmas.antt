-- The way down the levels: what was done so far, and what is left.
use Rattle.std.proofs.Common.{◌≡◌, ◌≢◌, ℕ, suc, ◌+◌, ◌-◌, ◌*◌, ◌<◌, ◌≤◌, ◌^◌, List, [], ◌++◌}
use Rattle.std.proofs.Common.{length, map, All, AllPairs, refl, sym, ap, subst, ◌∙◌, arith}
use Rattle.std.proofs.lemmas.List.{append-nil, append_assoc, length-append, length-map}
use Rattle.std.proofs.lemmas.List.Elements.{All-map}
use Rattle.hg_defs.specs.Sums.{total}
use Rattle.hg_defs.specs.Hypergraph.{Hyper, IsHypergraph, IsWithinLimits}
use Rattle.hg_defs.specs.Cost.{cost}
use Rattle.hg_defs.specs.Contraction.{contract, after, IsFull, IsApart}
use Rattle.hg_defs.specs.ContractionLaws.{IsContractible}
use Rattle.hg_defs.specs.Clustering.{cluster_count}
use Rattle.hg_defs.specs.Levels.{level, map_of}
use Rattle.hg_defs.proofs.SumLaws.{total-append}
use Rattle.hg_defs.proofs.ContractionLaws.{partition_projected, fitting_projected, fixes_projected, cost_kept}
use Rattle.hg_defs.proofs.LevelLaws.{level_is_contraction, vertices_of_contraction}
use Rattle.hg_base.proofs.CountLaws.{cost-lt}
use Rattle.pin_plain.specs.Parted.{Parted}
use Rattle.round_log.specs.declared.record.Kind.{Kind}
use Rattle.round_log.specs.declared.record.LoggedRound.{LoggedRound}
use Rattle.round_log.specs.Passes.{saved}
use Rattle.round_log.specs.Trace.{IsDescent}
use Rattle.round_log.specs.TraceLaws.{IsSound}
use Rattle.round_log.proofs.PassLaws.{rounds-save}
use Rattle.round_log.proofs.DescentLaws.{Leaves}
use Rattle.level_stack.specs.Stack.{Stack}
use Rattle.level_stack.proofs.DownLaws.{StepsDown}
use Rattle.refiner.specs.declared.pass.Tally.{Tally}
use Rattle.uncoarsen.specs.Start.{level_of}
use Rattle.uncoarsen.specs.Refined.{IsRefinedBy, rounds_of, tallies_with}
use Rattle.uncoarsen.specs.Passing.{RefinesLevel, RefinesDown}
use Rattle.uncoarsen.proofs.TallyLemmas.{rounds_of-append, tallies_with-nil, tallies_with-append, tallies_within, all_mapped}
use Rattle.uncoarsen.proofs.PassesLaws.{passes_keep, passes_few, refined_by_leaves}

-- ---- projections

module _ (s : Stack) (k l i : ℕ) (low : i < length s.maps) (full : IsFull (level_of s i) (map_of s.maps i) (cluster_count (map_of s.maps i)))
    (apart : IsApart (level_of s i) (map_of s.maps i))
  where
    next : level_of s (suc i) ≡ contract (level_of s i) (map_of s.maps i) (cluster_count (map_of s.maps i))
    next = level_is_contraction s.base s.maps i low

    -- the map names vertices of the coarser level
    pub map_below : All (λ (v : ℕ). v < length (level_of s (suc i)).weights) (map_of s.maps i)
    map_below =
        subst (λ (n : ℕ). All (λ (v : ℕ). v < n) (map_of s.maps i))
        (sym (ap (λ (h : Hyper). length h.weights) next
        ∙ vertices_of_contraction (level_of s i) (map_of s.maps i) (cluster_count (map_of s.maps i))))
        full.below

    -- a sound partition is projected to a sound one, which costs as much
    pub projected_sound : IsHypergraph (level_of s i) → (q : List ℕ) → IsSound (level_of s (suc i)) k l q
        → IsSound (level_of s i) k l (after q (map_of s.maps i)) × (cost (level_of s i) (after q (map_of s.maps i)) ≡ cost (level_of s (suc i)) q)
    projected_sound sound q o = (
      record {
        partition = partition_projected (level_of s i) (map_of s.maps i) (cluster_count (map_of s.maps i)) k q at on.partition;
        obeys = fixes_projected (level_of s i) (map_of s.maps i) (cluster_count (map_of s.maps i)) q at apart on.obeys;
        fits = fitting_projected (level_of s i) (map_of s.maps i) (cluster_count (map_of s.maps i)) k l q at counted on.fits;
      },
      cost_kept (level_of s i) (map_of s.maps i) (cluster_count (map_of s.maps i)) q at ∙ ap (λ (g : Hyper). cost g q) (sym next),
    )
      where
        at : IsContractible (level_of s i) (map_of s.maps i) (cluster_count (map_of s.maps i))
        at = record { hypergraph = sound; full = full }

        on : IsSound (contract (level_of s i) (map_of s.maps i) (cluster_count (map_of s.maps i))) k l q
        on = subst (λ (g : Hyper). IsSound g k l q) next o

        counted : length q ≡ cluster_count (map_of s.maps i)
        counted = on.partition.vertices ∙ vertices_of_contraction (level_of s i) (map_of s.maps i) (cluster_count (map_of s.maps i))

-- ---- a level

-- what refining it from a sound partition of k blocks leaves
pub record LeavesLevel (kinds : List Kind) (h : Hyper) (k l workers number : ℕ) (p : List ℕ) (before : List Tally) (old : List LoggedRound)
    (now : List Tally) (new : List LoggedRound) (q : Parted) : Type 0 where
  pub rounds : List LoggedRound
  pub log : new ≡ old ++ rounds
  pub refined : IsRefinedBy kinds k l workers number h p rounds q.blocks
  pub leads : q ≡ record { hyper = h; k = k; limit = l; blocks = q.blocks }
  pub sound : IsSound h k l q.blocks
  pub few : (kind : Kind) → length (rounds_of kind rounds) ≤ 2 ^ 15
  pub spent : total saved rounds + cost h q.blocks ≡ cost h p
  pub tallies : now ≡ tallies_with rounds kinds before

pub leaves_level : (kinds : List Kind) (g h : Hyper) (k l level workers seed : ℕ) (p : Parted) (bs : List ℕ) (before now : List Tally)
    (old new : List LoggedRound) (q : Parted) → k ≤ 256 → AllPairs (λ (a b : Kind). a ≢ b) kinds → g ≡ h
    → p ≡ record { hyper = g; k = k; limit = l; blocks = bs } → IsSound h k l bs
    → RefinesLevel kinds g (record { level = level; workers = workers; seed = seed }) p before now old new q
    → LeavesLevel kinds h k l workers level bs before old now new q
unfolding Leaves
leaves_level kinds g h k l level workers seed p bs before now old new q small differ same p_is sound refines = record {
  rounds = by.rounds;
  log = by.log;
  refined = by.refined;
  leads = by.leads;
  sound = (refined_by_leaves kinds k l workers level h bs by.rounds q.blocks by.refined sound).0;
  few = λ kind. passes_few kind kinds h k l workers bs by.rounds small differ by.refined.passes;
  spent =
      ap (λ (r : List ℕ). total saved by.rounds + cost h r) by.refined.result
      ∙ rounds-save h k l bs by.rounds sound.partition sound.fits (passes_keep kinds h k l workers bs by.rounds by.refined.passes);
  tallies = by.tallies;
}
  where
    by : RefinesLevel kinds h (record { level = level; workers = workers; seed = seed }) (record { hyper = h; k = k; limit = l; blocks = bs }) before now
        old new q
    by =
        subst (λ (x : Hyper). RefinesLevel kinds x (record { level = level; workers = workers; seed = seed })
        (record { hyper = x; k = k; limit = l; blocks = bs }) before now old new q) same
        (subst (λ (x : Parted). RefinesLevel kinds g (record { level = level; workers = workers; seed = seed }) x before now old new q) p_is refines)

-- ---- the levels above level i, so many in all, are done, and the partition is one of level i

pub record Downwards (kinds : List Kind) (s : Stack) (number : ℕ) (placed : List ℕ) (k l workers : ℕ) (before : List Tally) (logged : List LoggedRound)
    (i turns : ℕ) (tallies : List Tally) (log : List LoggedRound) (part : Parted) : Type 0 where
  pub rounds : List LoggedRound
  pub log_is : log ≡ logged ++ rounds
  pub finish : (later : List LoggedRound) (q : List ℕ) → IsDescent (IsRefinedBy kinds k l workers) s.base s.maps i part.blocks later q
      → IsDescent (IsRefinedBy kinds k l workers) s.base s.maps number placed (rounds ++ later) q
  pub part_is : part ≡ record { hyper = level_of s i; k = k; limit = l; blocks = part.blocks }
  pub sound : IsSound (level_of s i) k l part.blocks
  pub few : (kind : Kind) → length (rounds_of kind rounds) ≤ turns * 2 ^ 15
  pub spent : total saved rounds + cost (level_of s i) part.blocks ≡ cost (level_of s number) placed
  pub counted : tallies ≡ tallies_with rounds kinds before

module _ (kinds : List Kind) (s : Stack) (number : ℕ) (placed : List ℕ) (k l workers : ℕ) (before : List Tally) (logged : List LoggedRound) where
  -- the first level
  pub down_begin : (part : Parted) → part ≡ record { hyper = level_of s number; k = k; limit = l; blocks = placed }
      → IsSound (level_of s number) k l placed → length kinds ≡ length before
      → Downwards kinds s number placed k l workers before logged number 0 before logged part
  down_begin part is sound long = record {
    rounds = [];
    log_is = sym (append-nil logged);
    finish = λ later q d.
        subst (λ (bs : List ℕ). IsDescent (IsRefinedBy kinds k l workers) s.base s.maps number bs later q) blocks d;
    part_is =
        is ∙ ap (λ (bs : List ℕ). let r : Parted = record { hyper = level_of s number; k = k; limit = l; blocks = bs } in r) (sym blocks);
    sound = subst (IsSound (level_of s number) k l) (sym blocks) sound;
    few = λ kind. omega arith;
    spent = let same = ap (cost (level_of s number)) blocks in omega arith;
    counted = sym (tallies_with-nil kinds before long);
  }
    where
      blocks : part.blocks ≡ placed
      blocks = ap (λ (x : Parted). x.blocks) is

  -- the next one, to which the partition is projected
  pub down_more : (i turns : ℕ) (mid tallies : List Tally) (log new : List LoggedRound) (part q next : Parted)
      → Downwards kinds s number placed k l workers before logged (suc i) turns mid log part
      → LeavesLevel kinds (level_of s (suc i)) k l workers (suc i) part.blocks mid log tallies new q
      → next ≡ record { hyper = level_of s i; k = k; limit = l; blocks = after q.blocks (map_of s.maps i) }
      → IsSound (level_of s i) k l (after q.blocks (map_of s.maps i))
      → cost (level_of s i) (after q.blocks (map_of s.maps i)) ≡ cost (level_of s (suc i)) q.blocks
      → Downwards kinds s number placed k l workers before logged i (turns + 1) tallies new next
  down_more i turns mid tallies log new part q next d r is sound same = record {
    rounds = d.rounds ++ r.rounds;
    log_is = r.log ∙ ap (λ (rs : List LoggedRound). rs ++ r.rounds) d.log_is ∙ append_assoc logged d.rounds r.rounds;
    finish = λ later bs below.
        subst (λ (rs : List LoggedRound). IsDescent (IsRefinedBy kinds k l workers) s.base s.maps number placed rs bs)
        (sym (append_assoc d.rounds r.rounds later))
        (d.finish (r.rounds ++ later) bs (
          r.rounds,
          later,
          q.blocks,
          refl,
          r.refined,
          subst (λ (c : List ℕ). IsDescent (IsRefinedBy kinds k l workers) s.base s.maps i c later bs) blocks below,
        ));
    part_is = is ∙ ap (λ (bs : List ℕ). let r : Parted = record { hyper = level_of s i; k = k; limit = l; blocks = bs } in r) (sym blocks);
    sound = subst (IsSound (level_of s i) k l) (sym blocks) sound;
    few = λ kind.
        let old = d.few kind in
        let made = r.few kind in
        let both = ap length (rounds_of-append kind d.rounds r.rounds) ∙ length-append (rounds_of kind d.rounds) (rounds_of kind r.rounds) in
        omega arith;
    spent =
        let old = d.spent in
        let made = r.spent in
        let both = total-append saved d.rounds r.rounds in
        let below = ap (cost (level_of s i)) blocks ∙ same in
        omega arith;
    counted = r.tallies ∙ ap (tallies_with r.rounds kinds) d.counted ∙ sym (tallies_with-append d.rounds r.rounds kinds before);
  }
    where
      blocks : next.blocks ≡ after q.blocks (map_of s.maps i)
      blocks = ap (λ (x : Parted). x.blocks) is

  -- the file
  pub down_end : (turns : ℕ) (mid tallies : List Tally) (log new : List LoggedRound) (part q : Parted)
      → Downwards kinds s number placed k l workers before logged 0 turns mid log part
      → LeavesLevel kinds (level_of s 0) k l workers 0 part.blocks mid log tallies new q
      → RefinesDown kinds s number placed k l workers before tallies logged new q
  down_end turns mid tallies log new part q d r = record {
    rounds = d.rounds ++ r.rounds;
    log = r.log ∙ ap (λ (rs : List LoggedRound). rs ++ r.rounds) d.log_is ∙ append_assoc logged d.rounds r.rounds;
    descent = d.finish r.rounds q.blocks r.refined;
    leads = r.leads;
    sound = r.sound;
    tallies = r.tallies ∙ ap (tallies_with r.rounds kinds) d.counted ∙ sym (tallies_with-append d.rounds r.rounds kinds before);
  }

-- ---- with the refiners

pub record Descending {B : Type 0} (run : B → Type 0) (kind : B → Kind) (tally : B → Tally) (s : Stack) (number : ℕ) (placed : List ℕ) (k l workers : ℕ)
    (logged : List LoggedRound) (old : List B) (i turns : ℕ) (boxes : List B) (log : List LoggedRound) (part : Parted) : Type 0 where
  pub may_run : All run boxes
  pub kinds : map kind boxes ≡ map kind old
  pub down : Downwards (map kind old) s number placed k l workers (map tally old) logged i turns (map tally boxes) log part

module _ {B : Type 0} (run : B → Type 0) (kind : B → Kind) (tally : B → Tally) (s : Stack) (number : ℕ) (placed : List ℕ) (k l workers seed : ℕ)
    (logged : List LoggedRound) (old : List B)
  where
    -- the tallies are far from their limit
    pub tallies_low : (i turns : ℕ) (boxes : List B) (log : List LoggedRound) (part : Parted)
        → Descending run kind tally s number placed k l workers logged old i turns boxes log part → IsWithinLimits (level_of s number) → turns ≤ 2 ^ 32
        → All (λ b. ((tally b).rounds < 2 ^ 61) × ((tally b).gain < 2 ^ 61)) old
        → All (λ b. ((tally b).rounds < 2 ^ 62) × ((tally b).gain < 2 ^ 62)) boxes
    tallies_low i turns boxes log part d bounds turned low =
        all_mapped (λ (t : Tally). (t.rounds < 2 ^ 62) × (t.gain < 2 ^ 62)) tally boxes
        (subst (All (λ (t : Tally). (t.rounds < 2 ^ 62) × (t.gain < 2 ^ 62))) (sym d.down.counted)
        (tallies_within d.down.rounds (2 ^ 61) (2 ^ 60) (2 ^ 62) (map kind old) (map tally old) (omega arith)
        (λ x. let few = d.down.few x in omega arith)
        (let spent = d.down.spent in let most = cost-lt (level_of s number) placed bounds in omega arith)
        (All-map (λ (t : Tally). (t.rounds < 2 ^ 61) × (t.gain < 2 ^ 61)) tally old low)))

    -- at a level that is told otherwise
    pub descending_at : (i j turns : ℕ) (boxes : List B) (log : List LoggedRound) (part : Parted) → i ≡ j
        → Descending run kind tally s number placed k l workers logged old i turns boxes log part
        → Descending run kind tally s number placed k l workers logged old j turns boxes log part
    descending_at i j turns boxes log part same d =
        subst (λ (n : ℕ). Descending run kind tally s number placed k l workers logged old n turns boxes log part) same d

    -- before the first level
    pub descending_begin : (g : Hyper) → g ≡ level_of s number → (part : Parted) → part ≡ record { hyper = g; k = k; limit = l; blocks = placed }
        → IsSound (level_of s number) k l placed → All run old
        → Descending run kind tally s number placed k l workers logged old number 0 old logged part
    descending_begin g same part part_is sound may_run = record {
      may_run = may_run;
      kinds = refl;
      down = down_begin (map kind old) s number placed k l workers (map tally old) logged part
          (part_is ∙ ap (λ (h : Hyper). let r : Parted = record { hyper = h; k = k; limit = l; blocks = placed } in r) same) sound
          (length-map old kind ∙ sym (length-map old tally));
    }

    -- a level is refined
    module _ (small : k ≤ 256) (differ : AllPairs (λ (a b : Kind). a ≢ b) (map kind old)) (i turns : ℕ) (boxes : List B) (log : List LoggedRound)
        (part : Parted) (done : Descending run kind tally s number placed k l workers logged old i turns boxes log part)
      where
        -- its hypergraph is that of the partition
        pub descending_on : part.hyper ≡ level_of s i
        descending_on = ap (λ (x : Parted). x.hyper) done.down.part_is

        pub descending_sound : IsSound part.hyper part.k part.limit part.blocks
        descending_sound = subst (λ (x : Parted). IsSound x.hyper x.k x.limit x.blocks) (sym done.down.part_is) done.down.sound

        module _ (g : Hyper) (same : g ≡ level_of s i) (boxes' : List B) (log' : List LoggedRound) (q : Parted)
            (refines : RefinesLevel (map kind boxes) g (record { level = i; workers = workers; seed = seed }) part (map tally boxes) (map tally boxes') log
            log' q)
          where
            pub descending_left : LeavesLevel (map kind old) (level_of s i) k l workers i part.blocks (map tally boxes) log (map tally boxes') log' q
            descending_left =
                leaves_level (map kind old) g (level_of s i) k l i workers seed part part.blocks (map tally boxes) (map tally boxes') log log' q small
                differ same
                (done.down.part_is
                ∙ ap (λ (h : Hyper). let r : Parted = record { hyper = h; k = k; limit = l; blocks = part.blocks } in r) (sym same))
                done.down.sound
                (subst (λ (ks : List Kind). RefinesLevel ks g (record { level = i; workers = workers; seed = seed }) part (map tally boxes)
                (map tally boxes') log log' q) done.kinds refines)

    module _ (small : k ≤ 256) (differ : AllPairs (λ (a b : Kind). a ≢ b) (map kind old)) (above : ℕ) (boxes : List B) (log : List LoggedRound)
        (part : Parted) (done : Descending run kind tally s number placed k l workers logged old (number - above) above boxes log part)
        (boxes' : List B) (log' : List LoggedRound) (q : Parted)
      where
        -- the file is refined
        pub descending_end : number - above ≡ 0 → (g : Hyper) → g ≡ level_of s 0
            → RefinesLevel (map kind boxes) g (record { level = 0; workers = workers; seed = seed }) part (map tally boxes) (map tally boxes') log log' q
            → RefinesDown (map kind old) s number placed k l workers (map tally old) (map tally boxes') logged log' q
        descending_end file g same refines =
            down_end (map kind old) s number placed k l workers (map tally old) logged above (map tally boxes) (map tally boxes') log log' part q last.down
            (descending_left small differ 0 above boxes log part last g same boxes' log' q refines)
          where
            last : Descending run kind tally s number placed k l workers logged old 0 above boxes log part
            last = descending_at (number - above) 0 above boxes log part file done

        -- a level above it is refined, and what is left is projected to the one below
        module _ (low : above < number) (within : number ≤ length s.maps)
            (refines : RefinesLevel (map kind boxes) part.hyper (record { level = number - above; workers = workers; seed = seed }) part (map tally boxes)
            (map tally boxes') log log' q)
            (g : Hyper) (clusters : List ℕ) (step : StepsDown s.base s.maps (number - 1 - above) g clusters)
          where
            abbrev i : ℕ
            i = number - 1 - above

            up : number - above ≡ suc i
            up = omega arith

            on_stack : i < length s.maps
            on_stack = omega arith

            left : LeavesLevel (map kind old) (level_of s (suc i)) k l workers (suc i) part.blocks (map tally boxes) log (map tally boxes') log' q
            left =
                subst (λ (n : ℕ). LeavesLevel (map kind old) (level_of s n) k l workers n part.blocks (map tally boxes) log (map tally boxes') log' q) up
                (descending_left small differ (number - above) above boxes log part done part.hyper
                (descending_on small differ (number - above) above boxes log part done) boxes' log' q refines)

            full_up : IsFull (level_of s i) (map_of s.maps i) (cluster_count (map_of s.maps i))
            full_up = subst (λ (c : List ℕ). IsFull (level_of s i) c (cluster_count c)) step.is_map step.full

            apart_up : IsApart (level_of s i) (map_of s.maps i)
            apart_up = subst (IsApart (level_of s i)) step.is_map step.apart

            -- the clusterings name vertices of the partition's level
            pub descending_places : All (λ (v : ℕ). v < length q.hyper.weights) clusters
            descending_places =
                subst (λ (h : Hyper). All (λ (v : ℕ). v < length h.weights) clusters) (sym (ap (λ (x : Parted). x.hyper) left.leads))
                (subst (All (λ (v : ℕ). v < length (level_of s (suc i)).weights)) (sym step.is_map) (map_below s k l i on_stack full_up apart_up))

            -- what holds of the lower level and k blocks holds of its hypergraph and the partition's
            pub descending_to : (P : Hyper → ℕ → Type 0) → P (level_of s i) k → P g q.k
            descending_to P holds =
                subst (P g) (sym (ap (λ (x : Parted). x.k) left.leads)) (subst (λ (h : Hyper). P h k) (sym step.same) holds)

            pub descending_more : IsHypergraph g → (p : Parted)
                → p ≡ record { hyper = g; k = q.k; limit = q.limit; blocks = after q.blocks clusters } → All run boxes' → map kind boxes' ≡ map kind boxes
                → Descending run kind tally s number placed k l workers logged old (number - (above + 1)) (above + 1) boxes' log' p
            descending_more good p p_is may_run kinds =
                descending_at i (number - (above + 1)) (above + 1) boxes' log' p (omega arith) (record {
                  may_run = may_run;
                  kinds = kinds ∙ done.kinds;
                  down = down_more (map kind old) s number placed k l workers (map tally old) logged i above (map tally boxes) (map tally boxes') log log'
                      part q p (descending_at (number - above) (suc i) above boxes log part up done).down left projected_is lower.0 lower.1;
                })
              where
                projected_is : p ≡ record { hyper = level_of s i; k = k; limit = l; blocks = after q.blocks (map_of s.maps i) }
                projected_is =
                    p_is
                    ∙ ap (λ (n : ℕ). let r : Parted = record { hyper = g; k = n; limit = q.limit; blocks = after q.blocks clusters } in r)
                    (ap (λ (x : Parted). x.k) left.leads)
                    ∙ ap (λ (n : ℕ). let r : Parted = record { hyper = g; k = k; limit = n; blocks = after q.blocks clusters } in r)
                    (ap (λ (x : Parted). x.limit) left.leads)
                    ∙ ap (λ (c : List ℕ). let r : Parted = record { hyper = g; k = k; limit = l; blocks = after q.blocks c } in r) step.is_map
                    ∙ ap (λ (h : Hyper). let r : Parted = record { hyper = h; k = k; limit = l; blocks = after q.blocks (map_of s.maps i) } in r) step.same

                lower : IsSound (level_of s i) k l (after q.blocks (map_of s.maps i))
                    × (cost (level_of s i) (after q.blocks (map_of s.maps i)) ≡ cost (level_of s (suc i)) q.blocks)
                lower = projected_sound s k l i on_stack full_up apart_up (subst IsHypergraph step.same good) q.blocks left.sound
