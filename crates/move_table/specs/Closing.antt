-- What a round leaves when it is closed.
use Rattle.std.specs.Prelude.{◌≡◌, ℕ, ◌+◌, ◌<◌, List, [], ◌∷◌, map, length, drop, All, slice_index, slice_index_or, slice_set, ℤ, pos, ◌-ℤ◌}
use Rattle.std.specs.List.{flat_map}
use mathlib.Core.Option.{some}
use lib.ListN.{get_elem?}
use Rattle.hg_defs.specs.declared.moves.Move.{Move}
use Rattle.hg_defs.specs.Sums.{total_z}
use Rattle.hg_defs.specs.Partition.{IsPartition, Fits}
use Rattle.hg_defs.specs.Cost.{cost}
use Rattle.hg_defs.specs.Replay.{replay}
use Rattle.pin_plain.specs.Parted.{Parted}
use Rattle.round_log.specs.Rounds.{AreRacedMoves}
use Rattle.move_core.specs.declared.account.Stage.TheVariants.{Idle}
use Rattle.move_table.specs.declared.view.View.{View}
use Rattle.move_table.specs.declared.view.Terms.{Terms}
use Rattle.move_table.specs.Standing.{IsStanding}
use Rattle.move_table.specs.Steps.{united_view, IsResting}
use Rattle.move_table.specs.Calls.{RacedRound, RacedPass, IsPassOf}

-- the passes are those of a round by rising number, and none holds a grant
pub record ArePassesOf (r : RacedRound) (passes : List RacedPass) : Type 0 where
  pub all : length passes ≡ r.terms.workers
  pub each : (i : ℕ) (p : RacedPass) → i < length passes → IsPassOf r (slice_index_or passes i p)
  pub numbers : (i : ℕ) (p : RacedPass) → i < length passes → (slice_index_or passes i p).view.number ≡ i
  pub idle : (i : ℕ) (p : RacedPass) → i < length passes → (slice_index_or passes i p).view.account.stage ≡ Idle

-- a pass has a number for each of its moves, has booked what they did, and they bear its own number
pub record IsKeptPass (p : RacedPass) : Type 0 where
  pub numbered : length p.view.account.numbers ≡ length p.view.account.moves
  pub gain : p.view.account.gain ≡ total_z (λ m. m.booked) p.view.account.moves
  pub own : All (λ m. m.worker ≡ p.view.number) p.view.account.moves

-- the moves of all passes, one pass after the other, and the numbers drawn for them
abbrev pub all_moves : List RacedPass → List Move
all_moves passes = flat_map (λ p. p.view.account.moves) passes

abbrev pub all_numbers : List RacedPass → List ℕ
all_numbers passes = flat_map (λ p. p.view.account.numbers) passes

-- the gain of each pass
abbrev pub all_gains : List RacedPass → List ℤ
all_gains passes = map (λ p. p.view.account.gain) passes

-- so many moves, of which each stands at the place of its number
pub record AreByNumber (numbers : List ℕ) (moves ordered : List Move) : Type 0 where
  pub all : length ordered ≡ length moves
  pub places : (k : ℕ) (m : Move) → k < length moves → slice_index_or ordered (slice_index numbers k) m ≡ slice_index_or moves k m

-- moves put down one after the other, each at the place of its number, where the list has that place
abbrev pub laid : List Move → List ℕ → List Move → List Move
laid out [] moves = out
laid out (n ∷ numbers) [] = out
laid out (n ∷ numbers) (m ∷ moves) = laid (slice_set out n m) numbers moves

-- as many places as there are moves, with the moves of all passes put down in them
pub record AreLaid (passes : List RacedPass) (out : List Move) : Type 0 where
  pub places : List Move
  pub all : length places ≡ length (all_moves passes)
  pub moves : out ≡ laid places (all_numbers passes) (all_moves passes)

-- a closed round: the blocks at the opening, the partition, the moves in the order of their numbers, and the gains
pub record RacedEnd : Type 0 where
  pub opening : List ℕ
  pub part : Parted
  pub moves : List Move
  pub gains : List ℤ

-- what holds of every closed round: the moves and gains of workers in a race, from blocks that fit to a partition that
-- is their replay and fits, and the gains sum to the cost saved
pub record IsRacedEnd (e : RacedEnd) : Type 0 where
  pub raced : AreRacedMoves e.part.hyper e.part.k e.opening e.moves e.gains
  pub whole : IsPartition e.part.hyper e.part.k e.opening
  pub opened : Fits e.part.hyper e.part.k e.part.limit e.opening
  pub replayed : e.part.blocks ≡ replay e.opening e.moves
  pub fits : Fits e.part.hyper e.part.k e.part.limit e.part.blocks
  pub sum : total_z (λ g. g) e.gains ≡ pos (cost e.part.hyper e.opening) -ℤ pos (cost e.part.hyper e.part.blocks)

-- a pass that has taken others over, the last one first
abbrev pub united_all : View → List RacedPass → View
united_all v [] = v
united_all v (p ∷ ps) = united_view (united_all v ps) p.view

-- the words of a round whose passes have all been taken over by the first one: they are in balance, at rest, and no
-- other pass stands
pub record IsEnded (t : Terms) (passes : List RacedPass) : Type 0 where
  pub words : List ℕ
  pub views : List View
  pub id : ℕ
  pub view : View
  pub standing : IsStanding t words views
  pub here : get_elem? views id ≡ some view
  pub resting : IsResting view
  pub alone : view.stands + view.may ≡ length passes
  pub united : (p : RacedPass) → view ≡ united_all (slice_index_or passes 0 p).view (drop 1 passes)
