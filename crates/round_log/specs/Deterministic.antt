-- The deterministic mode: levels by pairing, the best named placement, synchronous rounds, and sweeps at the end.
use Rattle.std.specs.Prelude.{◌≡◌, ℕ, zero, suc, ◌+◌, ◌-◌, ◌*◌, ◌<◌, ◌≤◌, ◌⊎◌, List, [], ◌∷◌, length, replicate, All, pos, ◌-ℤ◌, Bool}
use Rattle.std.specs.Prelude.{true, false, ◌&&◌, nat_lt, nat_le, if◌then◌else◌, Option, Some, None, option_map}
use Rattle.hg_defs.specs.Hypergraph.{Hyper, vertex_count, total_weight}
use Rattle.hg_defs.specs.Cost.{cost}
use Rattle.hg_defs.specs.LeastLoaded.{greedy}
use Rattle.hg_defs.specs.Moves.{IsSettled, sweep}
use Rattle.hg_defs.specs.Replay.{replay, best_prefix}
use Rattle.hg_defs.specs.Contraction.{contract, after}
use Rattle.hg_defs.specs.Clustering.{cluster_count, cluster_cap}
use Rattle.hg_defs.specs.Levels.{level, map_of}
use Rattle.hg_defs.specs.Pairing.{paired}
use Rattle.hg_defs.specs.Placement.{named_best}
use Rattle.hg_defs.specs.Synchronous.{sync_moves, sync}
use Rattle.round_log.specs.declared.record.Kind.TheVariants.{Label}
use Rattle.round_log.specs.declared.record.LoggedRound.{LoggedRound}
use Rattle.round_log.specs.declared.record.Job.{Job}
use Rattle.round_log.specs.declared.record.Trace.{Trace}
use Rattle.round_log.specs.Rounds.{after_round, after_rounds, HasNoPair}
use Rattle.round_log.specs.Passes.{AtEnd, IsRacedBy}
use Rattle.round_log.specs.Trace.{IsChoice, IsDescended, IsTraced, limit_of}

-- ---- what is written, as a function

-- the pairing of a level within its cap
abbrev pub level_pairing : Hyper → ℕ → List ℕ
level_pairing h k = paired h (cluster_cap (total_weight h) k)

-- whether it is contracted: the level is large, and the pairing removes a twentieth of it
abbrev pub is_pairing_contracted : Hyper → ℕ → Bool
is_pairing_contracted h k =
    nat_lt (32 * k) (vertex_count h)
    && nat_le (vertex_count h) (20 * (vertex_count h - cluster_count (level_pairing h k)))

-- the pairings that are contracted from a level on, at most so many
abbrev pub contracted_pairings : ℕ → Hyper → ℕ → List (List ℕ)
contracted_pairings zero h k = []
contracted_pairings (suc n) h k =
    let clusters = level_pairing h k in
    let rest = contracted_pairings n (contract h clusters (cluster_count clusters)) k in
    if is_pairing_contracted h k then clusters ∷ rest else []

-- the clusterings of the levels: each removes a vertex at least, so there are no more than vertices
abbrev pub det_maps : Hyper → ℕ → List (List ℕ)
det_maps h k = contracted_pairings (vertex_count h) h k

-- the placement of a level where there is one, or what was found below it
abbrev pub placed_or : ℕ → Option (List ℕ) → Option (ℕ × List ℕ) → Option (ℕ × List ℕ)
placed_or i None lower = lower
placed_or i (Some p) lower = Some (i, p)

-- the first level, from that of a number down, where a named placement fits, with the best of them
abbrev pub first_placed : Hyper → List (List ℕ) → ℕ → ℕ → ℕ → ℕ → Option (ℕ × List ℕ)
first_placed h maps k l seed zero = placed_or 0 (named_best h k l seed) None
first_placed h maps k l seed (suc i) =
    let lower = first_placed h maps k l seed i in placed_or (suc i) (named_best (level h maps (suc i)) k l seed) lower

-- the partition after so many synchronous rounds: one that is settled stays
abbrev pub synced : ℕ → Hyper → ℕ → ℕ → List ℕ → List ℕ
synced zero h k l p = p
synced (suc n) h k l p = synced n h k l (sync h k l p)

-- from the level of a number down to the file: 8 synchronous rounds a level, and the projection between two levels
abbrev pub synced_down : Hyper → List (List ℕ) → ℕ → ℕ → ℕ → List ℕ → List ℕ
synced_down h maps k l zero p = synced 8 h k l p
synced_down h maps k l (suc i) p = synced_down h maps k l i (after (synced 8 (level h maps (suc i)) k l p) (map_of maps i))

-- greedy placement where it is cheaper
abbrev pub cheaper_of : Hyper → ℕ → List ℕ → List ℕ
cheaper_of h k p = if nat_lt (cost h (greedy h k)) (cost h p) then greedy h k else p

-- the partition after so many sweeps: one that is settled stays
abbrev pub swept_often : ℕ → Hyper → ℕ → ℕ → List ℕ → List ℕ
swept_often zero h k l p = p
swept_often (suc n) h k l p = swept_often n h k l (replay p (sweep h k l p))

-- swept until it is settled: each sweep before that lowers the cost, so there are no more of them than the cost
abbrev pub swept_until_settled : Hyper → ℕ → ℕ → List ℕ → List ℕ
swept_until_settled h k l p = swept_often (cost h p) h k l p

-- the partition of the file before the choice, where a named placement fits on some level
abbrev pub det_last : Hyper → ℕ → ℕ → ℕ → Option (List ℕ)
det_last h k l seed =
    option_map (λ s. synced_down h (det_maps h k) k l s.0 s.1) (first_placed h (det_maps h k) k l seed (length (det_maps h k)))

-- what the deterministic mode writes
abbrev pub det : Hyper → ℕ → ℕ → ℕ → Option (List ℕ)
det h k l seed = option_map (λ p. swept_until_settled h k l (cheaper_of h k p)) (det_last h k l seed)

-- ---- the legal traces of the mode

-- a raced round that lowers the cost, not made on a shared table
pub record IsDetRound (h : Hyper) (k l workers : ℕ) (p : List ℕ) (r : LoggedRound) : Type 0 where
  pub kind : r.kind ≡ Label
  pub raced : IsRacedBy h k l workers p r
  pub lower : r.after < r.before
  pub untabled : r.tabled ≡ false

-- such rounds, those of a `whole` level or its first ones, from p, after so many
abbrev pub AreDetRounds : Bool → Hyper → ℕ → ℕ → ℕ → ℕ → List ℕ → List LoggedRound → Type 0
AreDetRounds whole h k l workers made p [] = AtEnd whole (IsSettled h k l p ⊎ (made ≡ 8))
AreDetRounds whole h k l workers made p (r ∷ rounds) =
    (IsSettled h k l p → ⊥)
    × (made < 8)
    × IsDetRound h k l workers p r
    × AreDetRounds whole h k l workers (made + 1) (after_round p r) rounds

-- the rounds of a level
pub record IsDetRefined (k l workers number : ℕ) (h : Hyper) (p : List ℕ) (rounds : List LoggedRound) (q : List ℕ) : Type 0 where
  pub bear_level : All (λ r. r.level ≡ number) rounds
  pub pass : AreDetRounds true h k l workers 0 p rounds
  pub result : q ≡ after_rounds p rounds

abbrev pub IsLegalDet : Hyper → Job → Trace → List ℕ → Type 0
IsLegalDet h job trace q = IsTraced (IsDetRefined job.k (limit_of h job) job.workers) h job.k (limit_of h job) job.seed trace q

-- ---- the trace of the mode

-- a synchronous round as it is recorded: the first worker made all moves
pub record IsSyncRound (h : Hyper) (k l workers : ℕ) (p : List ℕ) (r : LoggedRound) : Type 0 where
  pub kind : r.kind ≡ Label
  pub moves : r.moves ≡ sync_moves h k l p
  pub kept : r.kept ≡ best_prefix h k l p r.moves
  pub gains : r.gains ≡ (pos r.before -ℤ pos r.made) ∷ replicate (workers - 1) (pos 0)
  pub before : r.before ≡ cost h p
  pub made : r.made ≡ cost h (replay p r.moves)
  pub after : r.after ≡ cost h (after_round p r)
  pub untabled : r.tabled ≡ false
  pub no_pair : HasNoPair r

-- synchronous rounds, those of a `whole` level or its first ones, from p, after so many
abbrev pub AreSyncRounds : Bool → Hyper → ℕ → ℕ → ℕ → ℕ → List ℕ → List LoggedRound → Type 0
AreSyncRounds whole h k l workers made p [] = AtEnd whole (IsSettled h k l p ⊎ (made ≡ 8))
AreSyncRounds whole h k l workers made p (r ∷ rounds) =
    (IsSettled h k l p → ⊥)
    × (made < 8)
    × IsSyncRound h k l workers p r
    × AreSyncRounds whole h k l workers (made + 1) (after_round p r) rounds

-- the rounds of a level
pub record IsSynced (k l workers number : ℕ) (h : Hyper) (p : List ℕ) (rounds : List LoggedRound) (q : List ℕ) : Type 0 where
  pub bear_level : All (λ r. r.level ≡ number) rounds
  pub pass : AreSyncRounds true h k l workers 0 p rounds
  pub result : q ≡ after_rounds p rounds

-- the clustering of a level is its pairing
abbrev pub IsPairing : ℕ → ℕ → Hyper → List ℕ → Type 0
IsPairing k number h clusters = clusters ≡ level_pairing h k

-- the first partition: the best named placement of the coarsest level where one fits
pub record IsDetStart (h : Hyper) (k l seed : ℕ) (trace : Trace) : Type 0 where
  pub on_level : trace.start ≤ length trace.maps
  pub none_above : (i : ℕ) → trace.start < i → i ≤ length trace.maps → named_best (level h trace.maps i) k l seed ≡ None
  pub best : named_best (level h trace.maps trace.start) k l seed ≡ Some trace.first

-- the trace of the mode that ends with the partition q
pub record IsDetTrace (h : Hyper) (k l seed workers : ℕ) (trace : Trace) (q : List ℕ) : Type 0 where
  pub start : IsDetStart h k l seed trace
  pub swept : List ℕ
  pub choice : IsChoice h k trace.last trace.chosen swept
  pub descended : IsDescended (IsPairing k) (IsSynced k l workers) h k l trace swept q
