-- What a flow pass makes at the turns of pairs of blocks.
use Rattle.std.specs.Prelude.{◌≡◌, ℕ, false, List, [], ◌∷◌, ◌++◌, length, All, Bool, nat_eq, if◌then◌else◌, pos, ◌-ℤ◌}
use Rattle.hg_defs.specs.declared.moves.Move.{Move}
use Rattle.hg_defs.specs.Hypergraph.{Hyper}
use Rattle.hg_defs.specs.Partition.{block_of, Fits}
use Rattle.hg_defs.specs.Moves.{gain}
use Rattle.hg_defs.specs.Sums.{total_z}
use Rattle.pin_plain.specs.Parted.{Parted}
use Rattle.round_log.specs.declared.record.Kind.TheVariants.{Flow}
use Rattle.round_log.specs.declared.record.LoggedRound.{LoggedRound}
use Rattle.round_log.specs.Rounds.{after_rounds, IsFlowRound}
use Rattle.round_log.specs.Passes.{AreFlowRounds}
use Rattle.flow_pair.specs.declared.solve.PairEnd.{PairEnd}

-- the move of a vertex to a block, where that is another one
abbrev pub change : Hyper → List ℕ → ℕ → ℕ → List Move
change h p v b =
    if nat_eq (block_of p v) b then [] else (record { vertex = v; from = block_of p v; to = b; worker = 0; booked = gain h p v b } ∷ [])

-- a flow round of these moves, whose cost after them is told by what they booked
pub record IsRoundOf (level a b before : ℕ) (end : PairEnd) (moves : List Move) (r : LoggedRound) : Type 0 where
  pub kind : r.kind ≡ Flow
  pub level_is : r.level ≡ level
  pub moves_are : r.moves ≡ moves
  pub kept : r.kept ≡ length moves
  pub gains : r.gains ≡ total_z (λ m. m.booked) moves ∷ []
  pub before_is : r.before ≡ before
  pub made : pos r.made ≡ pos before -ℤ total_z (λ m. m.booked) moves
  pub after : r.after ≡ r.made
  pub first : r.first ≡ a
  pub second : r.second ≡ b
  pub region : r.region ≡ end.region
  pub value : r.value ≡ end.value
  pub untabled : r.tabled ≡ false

-- the record of a flow round of a pair, at a level
pub record RecordsFlow (h : Hyper) (k l level : ℕ) (p : List ℕ) (a b : ℕ) (r : LoggedRound) : Type 0 where
  pub kind : r.kind ≡ Flow
  pub level_is : r.level ≡ level
  pub first : r.first ≡ a
  pub second : r.second ≡ b
  pub untabled : r.tabled ≡ false
  pub flow : IsFlowRound h k l p r

-- the rounds made at the turns of some pairs from p lead to q: whatever is legal of the later pairs from there on is legal after them
pub record LeadsOn (h : Hyper) (k l level : ℕ) (pairs later : List (ℕ × ℕ)) (p q : List ℕ) (made : List LoggedRound) : Type 0 where
  pub follows : (whole : Bool) (rest : List LoggedRound) → AreFlowRounds whole h k l later q rest → AreFlowRounds whole h k l pairs p (made ++ rest)
  pub leads : q ≡ after_rounds p made
  pub recorded : All (λ r. (r.level ≡ level) × (r.tabled ≡ false)) made

-- at the turns of some pairs rounds were appended, which lead from one partition to another one that fits
pub record TakesTurns (h : Hyper) (level : ℕ) (pairs later : List (ℕ × ℕ)) (p q : Parted) (old new : List LoggedRound) : Type 0 where
  pub made : List LoggedRound
  pub added : new ≡ old ++ made
  pub same : q ≡ record p { blocks = q.blocks }
  pub fits : Fits h p.k p.limit q.blocks
  pub leads : LeadsOn h p.k p.limit level pairs later p.blocks q.blocks made

-- the same of one pair, whatever pairs come later
abbrev pub TakesTurn : Hyper → ℕ → ℕ → ℕ → Parted → Parted → List LoggedRound → List LoggedRound → Type 0
TakesTurn h level a b p q old new = (later : List (ℕ × ℕ)) → TakesTurns h level ((a, b) ∷ later) later p q old new
