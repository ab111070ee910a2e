-- A cycle, of what the way up, the way down and the sweeps tell.
use Rattle.std.proofs.Common.{◌≡◌, ℕ, ◌≤◌, List, ◌++◌, length, refl, sym, ap, subst, ◌∙◌, arith}
use Rattle.hg_defs.specs.Hypergraph.{Hyper, IsHypergraph, IsFixedWithin, Suits}
use Rattle.hg_defs.specs.Levels.{level, coarsest, lifted_to}
use Rattle.pin_plain.specs.Parted.{Parted, IsParted}
use Rattle.pin_plain.specs.Settling.{Settles}
use Rattle.round_log.specs.declared.record.Kind.{Kind}
use Rattle.round_log.specs.declared.record.Stop.{Stop}
use Rattle.round_log.specs.declared.record.Chosen.{Chosen}
use Rattle.round_log.specs.declared.record.Chosen.TheVariants.{Levels}
use Rattle.round_log.specs.declared.record.LoggedRound.{LoggedRound}
use Rattle.round_log.specs.declared.record.Trace.{Trace}
use Rattle.round_log.specs.Trace.{AreContracted, IsStop, IsDescent}
use Rattle.round_log.specs.Cycles.{IsInsideAt}
use Rattle.round_log.specs.TraceLaws.{IsSound, IsSettledPartition}
use Rattle.round_log.proofs.DescentLaws.{swept_settled}
use Rattle.level_stack.specs.Stack.{Stack}
use Rattle.refiner.specs.declared.pass.Tally.{Tally}
use Rattle.uncoarsen.specs.Start.{level_of}
use Rattle.uncoarsen.specs.Refined.{IsRefinedBy, IsRefinedDown, tallies_with}
use Rattle.uncoarsen.proofs.EndLemmas.{levels_partable, tallies_swept}
use Rattle.vcycle.specs.Cycles.{IsCycleBy}
use Rattle.vcycle.specs.Climb.{ClimbsInside}
use Rattle.vcycle.proofs.CycleLaws.{inside_clustering, carried_up}

-- the same hypergraph and partition, told in other words
pub climbed : (h : Hyper) (k : ℕ) (p blocks : List ℕ) (s : Stack) (stop : Stop) (number : ℕ) (first : List ℕ) → IsParted h k p → blocks ≡ p → s.base ≡ h →
    AreContracted (IsInsideAt k s.maps blocks) 0 h k s.maps → IsStop (IsInsideAt k s.maps blocks) (length s.maps) (coarsest h s.maps) k stop →
    number ≡ length s.maps → first ≡ lifted_to blocks s.maps (length s.maps) → ClimbsInside h k p s stop number first
climbed h k p blocks s stop number first parted same base contracted stopped on_top carried = record {
  base = base;
  levels = levels;
  stopped = subst (λ (x : List ℕ). IsStop (IsInsideAt k s.maps x) (length s.maps) (coarsest h s.maps) k stop) same stopped;
  on_top = on_top;
  carried = carried ∙ ap (λ (x : List ℕ). lifted_to x s.maps (length s.maps)) same ∙ ap (lifted_to p s.maps) (sym on_top);
  partable =
      levels_partable (IsInsideAt k s.maps p) (inside_clustering k s.maps p) k s (subst IsHypergraph (sym base) parted.sound)
      (subst (λ (g : Hyper). AreContracted (IsInsideAt k s.maps p) 0 g k s.maps) (sym base) levels)
      (subst (λ (g : Hyper). Suits g k) (sym base) parted.suits)
      (subst (λ (g : Hyper). IsFixedWithin g k) (sym base) parted.fixed);
}
  where
    levels : AreContracted (IsInsideAt k s.maps p) 0 h k s.maps
    levels = subst (λ (x : List ℕ). AreContracted (IsInsideAt k s.maps x) 0 h k s.maps) same contracted

-- what the descent needs of its start
module _ (h : Hyper) (k : ℕ) (p : List ℕ) (s : Stack) (stop : Stop) (number : ℕ) (first : List ℕ) (up : ClimbsInside h k p s stop number first) where
  pub climbed_on_level : number ≤ length s.maps
  climbed_on_level = let e = up.on_top in omega arith

  pub climbed_sound : (l : ℕ) → IsHypergraph h → IsSound h k l p → IsSound (level_of s number) k l first
  climbed_sound l sound o =
      subst (λ (g : Hyper). IsSound (level g s.maps number) k l first) (sym up.base)
      (subst (IsSound (level h s.maps number) k l) (sym up.carried) (carried_up h k l s.maps p sound up.levels number climbed_on_level o).0)

-- ---- the whole cycle

module _ (kinds : List Kind) (h : Hyper) (k l workers : ℕ) (p : List ℕ) (s : Stack) (stop : Stop) (number : ℕ) (first : List ℕ) (old : Trace)
    (up : ClimbsInside h k p s stop number first) (down : IsRefinedDown kinds s stop number first k l workers old) (q : List ℕ) (log : List LoggedRound)
    (count : ℕ) (settles : Settles h k l old.last q old.rounds log count)
  where
    -- the trace before its end, with the sweeps
    abbrev swept : Trace
    swept = record old { rounds = log }

    abbrev whole : Trace
    whole = record {
      maps = s.maps;
      stop = stop;
      start = number;
      first = first;
      rounds = old.rounds ++ settles.rounds;
      last = old.last;
      chosen = Levels;
    }

    abbrev ended : Trace
    ended = record old { rounds = old.rounds ++ settles.rounds }

    swept_is : swept ≡ whole
    swept_is =
        ap (λ (x : List LoggedRound). let t : Trace = record old { rounds = x } in t) settles.log
        ∙ ap (λ (x : List (List ℕ)). let t : Trace = record ended { maps = x } in t) down.maps
        ∙ ap (λ (x : Stop). let t : Trace = record ended { maps = s.maps; stop = x } in t) down.same_stop
        ∙ ap (λ (x : ℕ). let t : Trace = record ended { maps = s.maps; stop = stop; start = x } in t) down.start
        ∙ ap (λ (x : List ℕ). let t : Trace = record ended { maps = s.maps; stop = stop; start = number; first = x } in t) down.first
        ∙ ap (λ (x : Chosen). let t : Trace = record whole { chosen = x } in t) down.chosen

    descent : IsDescent (IsRefinedBy kinds k l workers) h s.maps number first old.rounds old.last
    descent =
        subst (λ (g : Hyper). IsDescent (IsRefinedBy kinds k l workers) g s.maps number first old.rounds old.last) up.base down.descent

    whole_cycle : IsCycleBy kinds h k l workers whole p q
    whole_cycle = record {
      start = up.on_top;
      first = up.carried;
      chosen = refl;
      descended = record {
        maps = up.levels;
        stop = up.stopped;
        level_rounds = old.rounds;
        sweeps = settles.rounds;
        rounds_are = refl;
        descent = descent;
        settled = settles.sweeps;
      };
    }

    pub cycle_made : IsCycleBy kinds h k l workers swept p q
    cycle_made = subst (λ (t : Trace). IsCycleBy kinds h k l workers t p q) (sym swept_is) whole_cycle

    pub cycle_ends : IsSound s.base k l old.last → IsSettledPartition h k l q
    cycle_ends o =
        swept_settled h k l old.last settles.rounds q (subst (λ (g : Hyper). IsSound g k l old.last) up.base o) settles.sweeps

    pub cycle_tallied : (ts : List Tally) → tallies_with old.rounds kinds ts ≡ tallies_with log kinds ts
    cycle_tallied ts =
        sym (tallies_swept kinds h k l workers s.maps number first old.last old.last q old.rounds settles.rounds ts descent settles.sweeps)
        ∙ ap (λ (rs : List LoggedRound). tallies_with rs kinds ts) (sym settles.log)

-- sweeps of a partition that is told in other words
pub settles_told : (h g base : Hyper) (k l : ℕ) (blocks : List ℕ) (part : Parted) (q : List ℕ) (old log : List LoggedRound) (count : ℕ) → base ≡ h → g ≡ base →
    part ≡ record { hyper = base; k = k; limit = l; blocks = blocks } → Settles g part.k part.limit part.blocks q old log count →
    Settles h k l blocks q old log count
settles_told h g base k l blocks part q old log count base_is same part_is settles =
    subst (λ (x : Hyper). Settles x k l blocks q old log count) (same ∙ base_is)
    (subst (λ (x : Parted). Settles g x.k x.limit x.blocks q old log count) part_is settles)
