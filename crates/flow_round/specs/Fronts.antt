-- A partition while its pairs are solved in waves.
use Rattle.std.specs.Prelude.{◌≡◌, ◌≢◌, ℕ, ◌*◌, List, length, All}
use Rattle.hg_defs.specs.Hypergraph.{Hyper}
use Rattle.hg_defs.specs.Partition.{Fits}
use Rattle.flow_pair.specs.CutNets.{AreCutLists}
use Rattle.flow_round.specs.declared.front.Front.{Front}
use Rattle.flow_round.specs.PairTurns.{IsPairBelow, AreBooked, AreTurns, after_turns}
use Rattle.flow_round.specs.Waves.{end_at, moves_at}

-- the partition fits, its cut nets are known, and the tables have a place for each pair
pub record IsFront (h : Hyper) (f : Front) : Type 0 where
  pub belongs : f.part.hyper ≡ h
  pub fits : Fits h f.part.k f.part.limit f.part.blocks
  pub cut_is : AreCutLists h f.part.k f.part.blocks f.cut
  pub table_is : length f.ends.items ≡ f.part.k * f.part.k
  pub moves_are : length f.made.items ≡ f.part.k * f.part.k

-- the turns of some pairs were taken from one front to another one, and their moves were kept
pub record TakesPairs (h : Hyper) (pairs : List (ℕ × ℕ)) (old new : Front) : Type 0 where
  pub same : new.part ≡ record old.part { blocks = after_turns (end_at old.part.k new.ends.items) pairs old.part.blocks }
  pub turns : AreTurns h old.part.k old.part.limit (end_at old.part.k new.ends.items) pairs old.part.blocks
  pub booked : AreBooked h (end_at old.part.k new.ends.items) (moves_at old.part.k new.made.items) pairs old.part.blocks
  pub others : (x : ℕ × ℕ) → IsPairBelow old.part.k x → All (λ y. y ≢ x) pairs → moves_at old.part.k new.made.items x ≡ moves_at old.part.k old.made.items x
