-- Refinement by refiners of given kinds: the passes on a level, the rounds of all levels, and what the refiners tally of them.
use Rattle.std.specs.Prelude.{◌≡◌, ℕ, ◌+◌, List, [], ◌∷◌, ◌++◌, length, filter, All, Bool, true, false}
use Rattle.hg_defs.specs.Sums.{total}
use Rattle.hg_defs.specs.Hypergraph.{Hyper}
use Rattle.round_log.specs.declared.record.Kind.{Kind}
use Rattle.round_log.specs.declared.record.Kind.TheVariants.{Label, Search, Flow, Sweep}
use Rattle.round_log.specs.declared.record.Stop.{Stop}
use Rattle.round_log.specs.declared.record.Chosen.TheVariants.{Levels}
use Rattle.round_log.specs.declared.record.LoggedRound.{LoggedRound}
use Rattle.round_log.specs.declared.record.Job.{Job}
use Rattle.round_log.specs.declared.record.Trace.{Trace}
use Rattle.round_log.specs.Rounds.{after_rounds}
use Rattle.round_log.specs.Passes.{IsPass, saved}
use Rattle.round_log.specs.Trace.{IsDescent, IsTraced, limit_of}
use Rattle.level_stack.specs.Stack.{Stack}
use Rattle.refiner.specs.declared.pass.Tally.{Tally}

-- ---- a level

-- passes from p on, one of each kind, in turn
abbrev pub ArePasses : List Kind → Hyper → ℕ → ℕ → ℕ → List ℕ → List LoggedRound → Type 0
ArePasses [] h k l workers p rounds = rounds ≡ []
ArePasses (kind ∷ kinds) h k l workers p rounds =
    (here : List LoggedRound) × (later : List LoggedRound)
    × (rounds ≡ here ++ later)
    × IsPass kind h k l workers p here
    × ArePasses kinds h k l workers (after_rounds p here) later

-- the rounds of a level: a pass of each kind, in turn
pub record IsRefinedBy (kinds : List Kind) (k l workers number : ℕ) (h : Hyper) (p : List ℕ) (rounds : List LoggedRound) (q : List ℕ) : Type 0 where
  pub bear_level : All (λ r. r.level ≡ number) rounds
  pub passes : ArePasses kinds h k l workers p rounds
  pub result : q ≡ after_rounds p rounds

-- ---- all levels

-- the trace of the passes from a partition of the level of a number down to the file, before its end
pub record IsRefinedDown (kinds : List Kind) (s : Stack) (stop : Stop) (number : ℕ) (placed : List ℕ) (k l workers : ℕ) (trace : Trace) : Type 0 where
  pub maps : trace.maps ≡ s.maps
  pub same_stop : trace.stop ≡ stop
  pub start : trace.start ≡ number
  pub first : trace.first ≡ placed
  pub chosen : trace.chosen ≡ Levels
  pub descent : IsDescent (IsRefinedBy kinds k l workers) s.base s.maps number placed trace.rounds trace.last

-- the whole trace of a run with refiners of these kinds, which ends with the partition q
abbrev pub IsLegalBy : List Kind → Hyper → Job → Trace → List ℕ → Type 0
IsLegalBy kinds h job trace q =
    IsTraced (IsRefinedBy kinds job.k (limit_of h job) job.workers) h job.k (limit_of h job) job.seed trace q

-- ---- tallies

-- whether two kinds are the same
abbrev pub is_same_kind : Kind → Kind → Bool
is_same_kind Label Label = true
is_same_kind Search Search = true
is_same_kind Flow Flow = true
is_same_kind Sweep Sweep = true
is_same_kind _ _ = false

-- the rounds of a kind
abbrev pub rounds_of : Kind → List LoggedRound → List LoggedRound
rounds_of kind rounds = filter (λ r. is_same_kind r.kind kind) rounds

-- a tally that counts the rounds of a kind among these too, and what they saved
abbrev pub tally_with : List LoggedRound → Kind → Tally → Tally
tally_with rounds kind tally = record {
  rounds = tally.rounds + length (rounds_of kind rounds);
  gain = tally.gain + total saved (rounds_of kind rounds);
}

-- the tallies of refiners of these kinds, each with the rounds of its own kind
abbrev pub tallies_with : List LoggedRound → List Kind → List Tally → List Tally
tallies_with rounds [] tallies = []
tallies_with rounds (kind ∷ kinds) [] = []
tallies_with rounds (kind ∷ kinds) (tally ∷ tallies) = tally_with rounds kind tally ∷ tallies_with rounds kinds tallies
