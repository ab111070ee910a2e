-- Worked examples of the deterministic mode, closed by computing, and of two cycles that change nothing.
use Rattle.std.specs.Prelude.{◌≡◌, ◌≢◌, ◌⊎◌, ℕ, zero, suc, ◌+◌, ◌<◌, ◌≤◌, List, [], ◌∷◌, map, slice_index, pos, false, Some, option_map}
use Rattle.std.proofs.Common.{inl, inr, refl, sym, ap, ◌∙◌, arith, ext_get_or}
use Rattle.std.proofs.lemmas.List.Elements.{All-nil, All-cons}
use Rattle.hg_defs.specs.declared.objective.Objective.TheVariants.{Connectivity}
use Rattle.hg_defs.specs.Hypergraph.{Net, Hyper}
use Rattle.hg_defs.specs.Partition.{Fits}
use Rattle.hg_defs.specs.Cost.{cost}
use Rattle.hg_defs.specs.Moves.{IsAllowed, IsSettled}
use Rattle.hg_defs.proofs.MoveLaws.{empty_sweep}
use Rattle.round_log.specs.declared.record.Kind.TheVariants.{Flow}
use Rattle.round_log.specs.declared.record.Stop.TheVariants.{Small}
use Rattle.round_log.specs.declared.record.Chosen.TheVariants.{Levels}
use Rattle.round_log.specs.declared.record.LoggedRound.{LoggedRound}
use Rattle.round_log.specs.declared.record.Trace.{Trace}
use Rattle.round_log.specs.Rounds.{touching, IsAssignment, IsFlowRound}
use Rattle.round_log.specs.Passes.{IsPossible, HasPossible}
use Rattle.round_log.specs.Trace.{IsRefined}
use Rattle.round_log.specs.Cycles.{IsCycle}
use Rattle.round_log.specs.Deterministic.{det_maps, det_last, det, synced, swept_until_settled}
use Rattle.round_log.proofs.Rows.{net, free, unit, pair, path, in_turns}

-- ---- the deterministic mode

-- seven vertices and four nets, which are too few to be coarsened
abbrev small : Hyper
small = unit Connectivity (free 7) (net 2 (0 ∷ 1 ∷ []) ∷ net 3 (0 ∷ 4 ∷ 5 ∷ 6 ∷ []) ∷ net 8 (3 ∷ 4 ∷ 5 ∷ []) ∷ net 7 (1 ∷ 2 ∷ 3 ∷ []) ∷ [])

small-maps : det_maps small 2 ≡ []
small-maps = refl

small-det : option_map (cost small) (det small 2 4 1) ≡ Some 10
small-det = refl

-- four vertices without weight on a path, and no block: two levels follow, until one vertex is left
abbrev weightless : Hyper
weightless = record { weights = 0 ∷ 0 ∷ 0 ∷ 0 ∷ []; nets = map (λ v. net 1 (v ∷ suc v ∷ [])) (0 ∷ 1 ∷ 2 ∷ []); objective = Connectivity; fixes = free 4 }

weightless-maps : det_maps weightless 0 ≡ (0 ∷ 0 ∷ 1 ∷ 1 ∷ []) ∷ (0 ∷ 0 ∷ []) ∷ []
weightless-maps = refl

-- two rounds settle a path whose blocks alternate
path-synced : synced 8 path 2 4 in_turns ≡ 0 ∷ 0 ∷ 0 ∷ 1 ∷ 1 ∷ 1 ∷ []
path-synced = refl

-- and a sweep does it another way
path-swept_down : swept_until_settled path 2 4 in_turns ≡ 1 ∷ 1 ∷ 0 ∷ 0 ∷ 0 ∷ 0 ∷ []
path-swept_down = refl

-- ---- a cycle over no vertex

abbrev empty : Hyper
empty = unit Connectivity [] []

empty-det : det empty 2 0 1 ≡ Some []
empty-det = refl

abbrev empty_trace : Trace
empty_trace = record { maps = []; stop = Small; start = 0; first = []; rounds = []; last = []; chosen = Levels }

empty-settled : IsSettled empty 2 0 []
empty-settled = empty_sweep empty 2 0 [] refl

empty-cycle : IsCycle empty 2 0 1 empty_trace [] []
empty-cycle = record {
  start = refl;
  first = refl;
  chosen = refl;
  descended = record {
    maps = tt;
    stop = omega arith;
    level_rounds = [];
    sweeps = [];
    rounds_are = refl;
    descent = record {
      label_rounds = [];
      search_rounds = [];
      flow_rounds = [];
      rounds_are = refl;
      bear_level = All-nil (λ (r : LoggedRound). r.level ≡ 0);
      label = inl empty-settled;
      search = inr (inr (λ x. none x.0 x.1 x.2));
      flow = (refl, tt);
      result = refl;
    };
    settled = (refl, empty-settled);
  };
}
  where
    none : (v b : ℕ) → IsPossible empty 2 0 [] v b → ⊥
    none v b x = let low = x.allowed.vertex in omega arith

-- ---- a cycle over two vertices on one net, in full blocks

abbrev apart : List ℕ
apart = 0 ∷ 1 ∷ []

-- the round of the pair: its region is empty
abbrev pair_round : LoggedRound
pair_round = record {
  kind = Flow;
  level = 0;
  moves = [];
  kept = 0;
  gains = pos 0 ∷ [];
  before = 1;
  made = 1;
  after = 1;
  first = 0;
  second = 1;
  region = [];
  value = 1;
  tabled = false;
}

abbrev pair_trace : Trace
pair_trace = record { maps = []; stop = Small; start = 0; first = apart; rounds = pair_round ∷ []; last = apart; chosen = Levels }

pair-settled : IsSettled pair 2 1 apart
pair-settled = empty_sweep pair 2 1 apart refl

-- no block has room
pair-full : (v b : ℕ) → IsAllowed pair 2 1 apart v b → ⊥
pair-full zero zero a = let room = a.room in omega arith
pair-full zero (suc zero) a = let room = a.room in omega arith
pair-full zero (suc (suc b)) a = let low = a.block in omega arith
pair-full (suc zero) zero a = let room = a.room in omega arith
pair-full (suc zero) (suc zero) a = let room = a.room in omega arith
pair-full (suc zero) (suc (suc b)) a = let low = a.block in omega arith
pair-full (suc (suc v)) b a = let low = a.vertex in omega arith

pair-fits : Fits pair 2 1 apart
pair-fits zero low = omega arith
pair-fits (suc zero) low = omega arith
pair-fits (suc (suc b)) low = absurd (omega arith)

-- an assignment of no vertex is the partition itself
pair-same : (q : List ℕ) → IsAssignment apart 0 1 [] q → q ≡ apart
pair-same q s = ext_get_or 0 q apart s.vertices (λ v low. s.outside v (All-nil (λ u. u ≢ v)))

pair-flow : IsFlowRound pair 2 1 apart pair_round
pair-flow = record {
  region = refl;
  assigned = record { vertices = refl; inside = All-nil (λ v. (slice_index apart v ≡ 0) ⊎ (slice_index apart v ≡ 1)); outside = λ v a. refl };
  fits = pair-fits;
  cheapest = λ q s. let e = ap (cost pair) (pair-same q s) in omega arith;
  value = refl;
  moves = refl;
  kept = refl;
  gains = refl;
  before = refl;
  made = refl;
  after = refl;
}

pair-cycle : IsCycle pair 2 1 1 pair_trace apart apart
pair-cycle = record {
  start = refl;
  first = refl;
  chosen = refl;
  descended = record {
    maps = tt;
    stop = omega arith;
    level_rounds = pair_round ∷ [];
    sweeps = [];
    rounds_are = refl;
    descent = record {
      label_rounds = [];
      search_rounds = [];
      flow_rounds = pair_round ∷ [];
      rounds_are = refl;
      bear_level = All-cons (λ (r : LoggedRound). r.level ≡ 0) pair_round [] refl (All-nil (λ (r : LoggedRound). r.level ≡ 0));
      label = inl pair-settled;
      search = inr (inr (λ x. pair-full x.0 x.1 x.2.allowed));
      flow = inr ((λ e. cc), refl, refl, refl, refl, pair-flow, tt);
      result = refl;
    };
    settled = (refl, pair-settled);
  };
}
