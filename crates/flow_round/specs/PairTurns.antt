-- The turns of pairs of blocks whose ends were found: in the order of a pass, or in waves.
use Rattle.std.specs.Prelude.{◌≡◌, ◌≢◌, ℕ, ◌-◌, ◌*◌, ◌<◌, List, [], ◌∷◌, map, filter, Bool, ◌&&◌, nat_lt, Option, Some, None}
use Rattle.std.specs.List.{range_with_len, flat_map}
use Rattle.hg_defs.specs.declared.moves.Move.{Move}
use Rattle.hg_defs.specs.Hypergraph.{Hyper}
use Rattle.round_log.specs.Rounds.{changes, touching}
use Rattle.flow_pair.specs.declared.solve.PairEnd.{PairEnd}
use Rattle.flow_pair.specs.PairEnds.{reassigned, IsPairEnd}

-- the end of a pair at its turn: none where no net touches both blocks
abbrev pub IsTurn : Hyper → ℕ → ℕ → List ℕ → ℕ × ℕ → Option PairEnd → Type 0
IsTurn h k l p pair None = touching h p pair.0 pair.1 ≡ []
IsTurn h k l p pair (Some end) = (touching h p pair.0 pair.1 ≢ []) × IsPairEnd h k l p pair.0 pair.1 end

-- the partition after a turn, and after those of a list of pairs
abbrev pub after_turn : List ℕ → Option PairEnd → List ℕ
after_turn p None = p
after_turn p (Some end) = reassigned p end.region end.blocks

abbrev pub after_turns : (ℕ × ℕ → Option PairEnd) → List (ℕ × ℕ) → List ℕ → List ℕ
after_turns ends [] p = p
after_turns ends (pair ∷ pairs) p = after_turns ends pairs (after_turn p (ends pair))

-- each pair of a list has its end at its turn
abbrev pub AreTurns : Hyper → ℕ → ℕ → (ℕ × ℕ → Option PairEnd) → List (ℕ × ℕ) → List ℕ → Type 0
AreTurns h k l ends [] p = Unit {0}
AreTurns h k l ends (pair ∷ pairs) p = IsTurn h k l p pair (ends pair) × AreTurns h k l ends pairs (after_turn p (ends pair))

-- the moves of a turn: those that assign the region of its end anew
abbrev pub IsBooked : Hyper → List ℕ → Option PairEnd → List Move → Type 0
IsBooked h p None moves = Unit {0}
IsBooked h p (Some end) moves = moves ≡ changes h p (reassigned p end.region end.blocks) end.region

-- each pair of a list has its moves at its turn
abbrev pub AreBooked : Hyper → (ℕ × ℕ → Option PairEnd) → (ℕ × ℕ → List Move) → List (ℕ × ℕ) → List ℕ → Type 0
AreBooked h ends made [] p = Unit {0}
AreBooked h ends made (pair ∷ pairs) p = IsBooked h p (ends pair) (made pair) × AreBooked h ends made pairs (after_turn p (ends pair))

-- two blocks below k, the lower one first
pub record IsPairBelow (k : ℕ) (x : ℕ × ℕ) : Type 0 where
  pub order : x.0 < x.1
  pub below : x.1 < k

-- two pairs without a block in common
pub record AreDisjoint (x y : ℕ × ℕ) : Type 0 where
  pub first_first : x.0 ≢ y.0
  pub first_second : x.0 ≢ y.1
  pub second_first : x.1 ≢ y.0
  pub second_second : x.1 ≢ y.1

-- the pairs a < b below k whose sum is s, in rising order
abbrev pub is_of_wave : ℕ → ℕ → ℕ → Bool
is_of_wave k s a = nat_lt (2 * a) s && nat_lt (s - a) k

abbrev pub wave : ℕ → ℕ → List (ℕ × ℕ)
wave k s = map (λ a. (a, s - a)) (filter (is_of_wave k s) (range_with_len 0 k))

-- all pairs, wave after wave
abbrev pub waves : ℕ → List (ℕ × ℕ)
waves k = flat_map (wave k) (range_with_len 1 (2 * k - 3))
