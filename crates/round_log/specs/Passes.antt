-- What a refiner's pass over one level is: which rounds it makes, and where it ends.
use Rattle.std.specs.Prelude.{◌≡◌, ◌≢◌, ℕ, ◌+◌, ◌-◌, ◌<◌, ◌≤◌, List, [], ◌∷◌, length, map, Contains, Bool, true, false, nat_lt, if◌then◌else◌, IsTrue, ◌⊎◌}
use Rattle.std.specs.List.{range_with_len, flat_map}
use Rattle.hg_defs.specs.Hypergraph.{Net, Hyper}
use Rattle.hg_defs.specs.Cost.{connectivity}
use Rattle.hg_defs.specs.Moves.{IsAllowed, IsSettled}
use Rattle.hg_defs.specs.declared.moves.Move.{Move}
use Rattle.round_log.specs.declared.record.Kind.{Kind}
use Rattle.round_log.specs.declared.record.Kind.TheVariants.{Label, Search, Flow}
use Rattle.round_log.specs.declared.record.LoggedRound.{LoggedRound}
use Rattle.round_log.specs.Rounds.{after_round, IsRaced, IsPlain, IsSwept, IsFlowRound, has_pin, touching}

-- what is asked where rounds end: of a whole pass that it may end there, and of the first rounds of a pass nothing
abbrev pub AtEnd : Bool → Type 0 → Type 0
AtEnd true end = end
AtEnd false end = Unit {0}

-- the round made the partition cheaper
abbrev pub is_lower : LoggedRound → Bool
is_lower r = nat_lt r.after r.before

-- a raced round with one gain for each worker
pub record IsRacedBy (h : Hyper) (k l workers : ℕ) (p : List ℕ) (r : LoggedRound) : Type 0 where
  pub raced : IsRaced h k l p r
  pub gains : length r.gains ≡ workers

-- a round of label propagation: raced on a shared table, or a sweep where the round before didn't make the partition cheaper
abbrev pub IsLabelRound : Bool → Hyper → ℕ → ℕ → ℕ → List ℕ → LoggedRound → Type 0
IsLabelRound true h k l workers p r = IsRacedBy h k l workers p r × (r.tabled ≡ true)
IsLabelRound false h k l workers p r = IsSwept h k l p r × (r.tabled ≡ false)

-- the rounds of a pass of label propagation, `whole` or its first ones, from p, after so many that made it cheaper; `raced` says what the next round is
abbrev pub AreLabelRounds : Bool → Hyper → ℕ → ℕ → ℕ → ℕ → Bool → List ℕ → List LoggedRound → Type 0
AreLabelRounds whole h k l workers lowered raced p [] = AtEnd whole (IsSettled h k l p ⊎ (lowered ≡ 8))
AreLabelRounds whole h k l workers lowered raced p (r ∷ rounds) =
    (IsSettled h k l p → ⊥)
    × (lowered < 8)
    × (r.kind ≡ Label)
    × IsLabelRound raced h k l workers p r
    × AreLabelRounds whole h k l workers (if is_lower r then lowered + 1 else lowered) (is_lower r) (after_round p r) rounds

-- a pin of a net that touches two blocks may go to a block that holds a pin of that net
pub record IsPossible (h : Hyper) (k l : ℕ) (p : List ℕ) (v b : ℕ) : Type 0 where
  pub net : (e : Net) × Contains h.nets e × Contains e.pins v × (2 ≤ connectivity p e.pins) × IsTrue (has_pin p e b)
  pub allowed : IsAllowed h k l p v b

-- some vertex may go to some block in this way
abbrev pub HasPossible : Hyper → ℕ → ℕ → List ℕ → Type 0
HasPossible h k l p = (v b : ℕ) × IsPossible h k l p v b

-- the move is the possible one of least vertex, then least block
pub record IsFirstPossible (h : Hyper) (k l : ℕ) (p : List ℕ) (m : Move) : Type 0 where
  pub possible : IsPossible h k l p m.vertex m.to
  pub vertex : (v b : ℕ) → IsPossible h k l p v b → m.vertex ≤ v
  pub block : (b : ℕ) → IsPossible h k l p m.vertex b → m.to ≤ b

-- a plain round of the first possible move alone
pub record IsSingleMove (h : Hyper) (k l : ℕ) (p : List ℕ) (r : LoggedRound) : Type 0 where
  pub plain : IsPlain h k l p r
  pub move : (m : Move) × (r.moves ≡ m ∷ []) × IsFirstPossible h k l p m
  pub untabled : r.tabled ≡ false

-- a round of localized searches: raced on a shared table with a move at least, or the first possible move alone
abbrev pub IsSearchRound : Hyper → ℕ → ℕ → ℕ → List ℕ → LoggedRound → Type 0
IsSearchRound h k l workers p r =
    (IsRacedBy h k l workers p r × (r.tabled ≡ true) × (r.moves ≢ [])) ⊎ IsSingleMove h k l p r

-- the rounds of a pass of searches, `whole` or its first ones, from p, after so many, the last of which kept a move where `going` says so
abbrev pub AreSearchRounds : Bool → Hyper → ℕ → ℕ → ℕ → ℕ → Bool → List ℕ → List LoggedRound → Type 0
AreSearchRounds whole h k l workers made going p [] = AtEnd whole ((made ≡ 4) ⊎ ((going ≡ false) ⊎ (HasPossible h k l p → ⊥)))
AreSearchRounds whole h k l workers made going p (r ∷ rounds) =
    (made < 4)
    × (going ≡ true)
    × HasPossible h k l p
    × (r.kind ≡ Search)
    × IsSearchRound h k l workers p r
    × AreSearchRounds whole h k l workers (made + 1) (nat_lt 0 r.kept) (after_round p r) rounds

-- the pairs of different blocks below k, in rising order of the first and then the second
abbrev pub block_pairs : ℕ → List (ℕ × ℕ)
block_pairs k = flat_map (λ a. map (λ i. (a, a + 1 + i)) (range_with_len 0 (k - (a + 1)))) (range_with_len 0 k)

-- no net touches the pairs that are left
abbrev pub AreApart : Hyper → List (ℕ × ℕ) → List ℕ → Type 0
AreApart h [] p = Unit {0}
AreApart h (pair ∷ pairs) p = (touching h p pair.0 pair.1 ≡ []) × AreApart h pairs p

-- the rounds of a flow pass over the pairs, `whole` or its first ones: one for each pair that a net touches at the pair's turn
abbrev pub AreFlowRounds : Bool → Hyper → ℕ → ℕ → List (ℕ × ℕ) → List ℕ → List LoggedRound → Type 0
AreFlowRounds whole h k l pairs p [] = AtEnd whole (AreApart h pairs p)
AreFlowRounds whole h k l [] p (r ∷ rounds) = ⊥
AreFlowRounds whole h k l (pair ∷ pairs) p (r ∷ rounds) =
    ((touching h p pair.0 pair.1 ≡ []) × AreFlowRounds whole h k l pairs p (r ∷ rounds))
    ⊎ ((touching h p pair.0 pair.1 ≢ [])
    × (r.kind ≡ Flow)
    × (r.first ≡ pair.0)
    × (r.second ≡ pair.1)
    × (r.tabled ≡ false)
    × IsFlowRound h k l p r
    × AreFlowRounds whole h k l pairs (after_round p r) rounds)

-- the rounds of a pass of a kind from p, `whole` or its first ones
abbrev pub ArePassRounds : Bool → Kind → Hyper → ℕ → ℕ → ℕ → List ℕ → List LoggedRound → Type 0
ArePassRounds whole Label h k l workers p rounds = AreLabelRounds whole h k l workers 0 true p rounds
ArePassRounds whole Search h k l workers p rounds = AreSearchRounds whole h k l workers 0 true p rounds
ArePassRounds whole Flow h k l workers p rounds = AreFlowRounds whole h k l (block_pairs k) p rounds
ArePassRounds whole _ h k l workers p rounds = ⊥

-- the rounds of a whole pass, and the first rounds of one
abbrev pub IsPass : Kind → Hyper → ℕ → ℕ → ℕ → List ℕ → List LoggedRound → Type 0
IsPass = ArePassRounds true

abbrev pub IsPartOfPass : Kind → Hyper → ℕ → ℕ → ℕ → List ℕ → List LoggedRound → Type 0
IsPartOfPass = ArePassRounds false

-- the most rounds that a pass of a kind makes
abbrev pub most_rounds : Kind → ℕ → ℕ
most_rounds Label k = 16
most_rounds Search k = 4
most_rounds Flow k = length (block_pairs k)
most_rounds _ k = 0

-- what a round saved
abbrev pub saved : LoggedRound → ℕ
saved r = r.before - r.after
