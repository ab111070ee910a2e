-- What the books tell where every pass is between two moves: the partition that the moves lead to.
use Rattle.std.specs.Prelude.{◌≡◌, ◌≢◌, ℕ, ◌+◌, ◌<◌, List, length, All, slice_index, slice_index_or, ℤ, pos, true, nat_eq, if◌then◌else◌}
use Rattle.std.specs.List.{range_with_len, flat_map}
use Rattle.hg_defs.specs.declared.moves.Move.{Move}
use Rattle.hg_defs.specs.Sums.{total_z}
use Rattle.hg_defs.specs.Hypergraph.{vertex_count, net_count, net_of, IsFree}
use Rattle.hg_defs.specs.Partition.{block_of, load}
use Rattle.hg_defs.specs.Pins.{pins_in}
use Rattle.hg_defs.specs.Cost.{connectivity}
use Rattle.hg_defs.specs.Replay.{replay}
use Rattle.move_core.specs.declared.account.Account.{Account}
use Rattle.move_core.specs.State.{Setup, Readings}
use Rattle.move_core.specs.Stages.{is_idle}
use Rattle.move_core.specs.Balance.{InBalance, IsSetup, numbered_by}

-- every pass is between two moves
abbrev pub AreIdle : List Account → Type 0
AreIdle accounts = All (λ a. is_idle a.stage ≡ true) accounts

-- the books of a round in balance, where every pass is between two moves
pub record IsAtRest (g : Setup) (r : Readings) (accounts : List Account) : Type 0 where
  pub setup : IsSetup g
  pub balance : InBalance g r accounts
  pub idle : AreIdle accounts

-- every pass lives
abbrev pub AreLive : List Account → Type 0
AreLive accounts = All (λ a. a.live ≡ true) accounts

-- the moves of all passes with a number below `next`, in the order of their numbers
abbrev pub moves_in_order : List Account → ℕ → List Move
moves_in_order accounts next =
    flat_map (λ n. flat_map (λ a. numbered_by (λ x. nat_eq x n) a.numbers a.moves) accounts) (range_with_len 0 next)

-- the partition to which they lead
abbrev pub closing : Setup → Readings → List Account → List ℕ
closing g r accounts = replay g.opening (moves_in_order accounts r.next)

-- so many moves, among which each move of a pass stands at the place of its number
pub record AreInOrder (accounts : List Account) (next : ℕ) (moves : List Move) : Type 0 where
  pub count : length moves ≡ next
  pub places : All (λ a. (k : ℕ) (m : Move) → k < length a.moves → slice_index_or moves (slice_index a.numbers k) m ≡ slice_index_or a.moves k m) accounts

-- the sum that a worker booked on moves
abbrev pub booked_by_worker : ℕ → List Move → ℤ
booked_by_worker i moves = total_z (λ m. if nat_eq m.worker i then m.booked else pos 0) moves

-- the words tell a partition exactly
pub record Tells (g : Setup) (r : Readings) (q : List ℕ) : Type 0 where
  pub names : (v : ℕ) → v < vertex_count g.graph → r.name v ≡ block_of q v
  pub loads : (b : ℕ) → b < g.blocks → r.load b ≡ load g.graph q b
  pub counts : (e b : ℕ) → e < net_count g.graph → b < g.blocks → r.count e b ≡ pins_in q (net_of g.graph e).pins b
  pub spreads : (e : ℕ) → e < net_count g.graph → r.spread e ≡ 64 + connectivity q (net_of g.graph e).pins

-- a move of a free vertex from its block at the opening to another one, by one of so many passes
pub record IsRoundMove (g : Setup) (passes : ℕ) (m : Move) : Type 0 where
  pub vertex : m.vertex < vertex_count g.graph
  pub free : IsFree g.graph m.vertex
  pub from : m.from ≡ block_of g.opening m.vertex
  pub to : m.to < g.blocks
  pub other : m.to ≢ m.from
  pub worker : m.worker < passes
