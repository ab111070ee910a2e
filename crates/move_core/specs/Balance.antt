-- The books in balance: what holds of the words and of the accounts of all passes at every moment.
use Rattle.std.specs.Prelude.{◌≡◌, ◌≢◌, ℕ, ◌+◌, ◌-◌, ◌*◌, ◌^◌, ◌<◌, ◌≤◌, List, [], ◌∷◌, ◌++◌, length, take, All, ℤ, pos, ◌+ℤ◌}
use Rattle.std.specs.Prelude.{◌-ℤ◌, ◌≤ℤ◌, Bool, true, false, max, nat_eq, nat_lt, slice_index, if◌then◌else◌}
use Rattle.hg_defs.specs.declared.moves.Move.{Move}
use Rattle.hg_defs.specs.Sums.{total, total_z, sum_below}
use Rattle.hg_defs.specs.Hypergraph.{Hyper, vertex_count, net_count, net_of, weight_of, is_free, IsHypergraph, IsWithinLimits}
use Rattle.hg_defs.specs.Partition.{block_of, load, IsPartition, Fits}
use Rattle.hg_defs.specs.Cost.{cost}
use Rattle.move_core.specs.declared.account.Account.{Account}
use Rattle.move_core.specs.declared.account.Owed.TheVariants.{Nothing, Up, Down}
use Rattle.move_core.specs.declared.account.Stage.{Stage}
use Rattle.move_core.specs.declared.account.Stage.TheVariants.{Idle, Refused, Granted, Moving}
use Rattle.hg_defs.specs.Incidence.{nets_of}
use Rattle.move_core.specs.State.{Setup, Readings, State, account_in, readings, times, blank, present_below}
use Rattle.move_core.specs.Events.{moved_vertices, price_at}
use Rattle.move_core.specs.Stages.{number_at, booked_at, move_at}

-- the vertex of a stage that isn't idle
abbrev pub stage_vertices : Stage → List ℕ
stage_vertices Idle = []
stage_vertices (Refused v to seen) = v ∷ []
stage_vertices (Granted v from to seen) = v ∷ []
stage_vertices (Moving v from to number named raised lowered owed booked) = v ∷ []

-- the vertices of a pass's moves, done or in hand
abbrev pub carried : Account → List ℕ
carried a = moved_vertices a ++ stage_vertices a.stage

-- Claims. The claim word of a vertex is the number of times that it stands among the held ones, which is 0 or 1;
-- it is 0 for a vertex that isn't free.
pub record Claims (h : Hyper) (r : Readings) (accounts : List Account) : Type 0 where
  pub word : (v : ℕ) → v < vertex_count h → r.claim v ≡ total (λ a. times v a.held) accounts
  pub once : (v : ℕ) → v < vertex_count h → r.claim v ≤ 1
  pub free : (v : ℕ) → v < vertex_count h → is_free h v ≡ false → r.claim v ≡ 0
  pub range : All (λ a. All (λ v. v < vertex_count h) a.held) accounts

-- the weight that stands at a stage for a block
abbrev pub reserved_weight : Hyper → ℕ → Stage → ℕ
reserved_weight h b Idle = 0
reserved_weight h b (Refused v to seen) = if nat_eq to b then weight_of h v else 0
reserved_weight h b (Granted v from to seen) = if nat_eq to b then weight_of h v else 0
reserved_weight h b (Moving v from to number named raised lowered owed booked) =
    if nat_eq to b then weight_of h v else 0

-- the weight that was refused and is still to be taken back
abbrev pub refused_weight : Hyper → ℕ → Stage → ℕ
refused_weight h b Idle = 0
refused_weight h b (Refused v to seen) = if nat_eq to b then weight_of h v else 0
refused_weight h b (Granted v from to seen) = 0
refused_weight h b (Moving v from to number named raised lowered owed booked) = 0

-- the weight that was granted
abbrev pub granted_weight : Hyper → ℕ → Stage → ℕ
granted_weight h b Idle = 0
granted_weight h b (Refused v to seen) = 0
granted_weight h b (Granted v from to seen) = if nat_eq to b then weight_of h v else 0
granted_weight h b (Moving v from to number named raised lowered owed booked) =
    if nat_eq to b then weight_of h v else 0

-- the weight that moves brought into a block, and the weight that they took from it
abbrev pub arrived : Hyper → ℕ → List Move → ℕ
arrived h b moves = total (λ m. if nat_eq m.to b then weight_of h m.vertex else 0) moves

abbrev pub departed : Hyper → ℕ → List Move → ℕ
departed h b moves = total (λ m. if nat_eq m.from b then weight_of h m.vertex else 0) moves

-- Loads. The load word of a block is its load at the opening, and the weights at stages and of moves done into it,
-- less the weights of moves done out of it. Without what was refused it is within the limit.
pub record Loads (s : Setup) (r : Readings) (accounts : List Account) : Type 0 where
  pub word : (b : ℕ) → b < s.blocks → r.load b + total (λ a. departed s.graph b a.moves) accounts ≡ load s.graph s.opening b
      + total (λ a. reserved_weight s.graph b a.stage + arrived s.graph b a.moves) accounts
  pub limit : (b : ℕ) → b < s.blocks → r.load b ≤ s.limit + total (λ a. refused_weight s.graph b a.stage) accounts

-- the vertices whose new name a pass has written
abbrev pub named_at : Stage → List ℕ
named_at Idle = []
named_at (Refused v to seen) = []
named_at (Granted v from to seen) = []
named_at (Moving v from to number named raised lowered owed booked) = if named then v ∷ [] else []

abbrev pub renamed : Account → List ℕ
renamed a = moved_vertices a ++ named_at a.stage

abbrev pub IsNamed : (ℕ → ℕ) → Stage → Type 0
IsNamed name Idle = Unit {0}
IsNamed name (Refused v to seen) = Unit {0}
IsNamed name (Granted v from to seen) = Unit {0}
IsNamed name (Moving v from to number named raised lowered owed booked) = named ≡ true → name v ≡ to

-- Names. The name word of a vertex is the block that its move goes to, where that move is done or has written it,
-- and elsewhere the block at the opening.
pub record Names (s : Setup) (r : Readings) (accounts : List Account) : Type 0 where
  pub done : All (λ a. All (λ m. r.name m.vertex ≡ m.to) a.moves) accounts
  pub stages : All (λ a. IsNamed r.name a.stage) accounts
  pub others : (v : ℕ) → v < vertex_count s.graph → total (λ a. times v (renamed a)) accounts ≡ 0 → r.name v ≡ block_of s.opening v

-- the Raises that a stage or a pass made for a vertex on a net in a block: a move done made one on each net
abbrev pub stage_raises : Hyper → ℕ → ℕ → ℕ → Stage → ℕ
stage_raises h u e b Idle = 0
stage_raises h u e b (Refused v to seen) = 0
stage_raises h u e b (Granted v from to seen) = 0
stage_raises h u e b (Moving v from to number named raised lowered owed booked) =
    if nat_eq v u then (if nat_eq to b then times e (take raised (nets_of h v)) else 0) else 0

abbrev pub raises : Hyper → ℕ → ℕ → ℕ → Account → ℕ
raises h u e b a =
    total (λ m. if nat_eq m.vertex u then (if nat_eq m.to b then 1 else 0) else 0) a.moves + stage_raises h u e b a.stage

-- the Lowers that a stage or a pass made for a vertex on a net, in the vertex's block at the opening
abbrev pub stage_lowers : Hyper → ℕ → ℕ → Stage → ℕ
stage_lowers h u e Idle = 0
stage_lowers h u e (Refused v to seen) = 0
stage_lowers h u e (Granted v from to seen) = 0
stage_lowers h u e (Moving v from to number named raised lowered owed booked) =
    if nat_eq v u then times e (take lowered (nets_of h v)) else 0

abbrev pub lowers : Hyper → ℕ → ℕ → Account → ℕ
lowers h u e a = times u (moved_vertices a) + stage_lowers h u e a.stage

-- a move goes over its nets in order: it raises in one block, and then lowers in the other
abbrev pub IsInStep : Hyper → Stage → Type 0
IsInStep h Idle = Unit {0}
IsInStep h (Refused v to seen) = Unit {0}
IsInStep h (Granted v from to seen) = Unit {0}
IsInStep h (Moving v from to number named raised lowered owed booked) =
    (lowered ≤ raised) × (raised ≤ lowered + 1) × (raised ≤ length (nets_of h v)) × (named ≡ false → raised ≡ 0)

-- Counts. The count word of a net and a block is the number of pins with that block at the opening, with the Raises
-- made on it, less the Lowers made on it: pin by pin.
pub record Counts (s : Setup) (r : Readings) (accounts : List Account) : Type 0 where
  pub word : (e b : ℕ) → e < net_count s.graph → b < s.blocks → r.count e b
      + total (λ u. if nat_eq (block_of s.opening u) b then total (lowers s.graph u e) accounts else 0) (net_of s.graph e).pins
      ≡ total (λ u. (if nat_eq (block_of s.opening u) b then 1 else 0) + total (raises s.graph u e b) accounts) (net_of s.graph e).pins
  pub steps : All (λ a. IsInStep s.graph a.stage) accounts

-- a move of a vertex from its block at the opening to another block
pub record IsMoveFromOpening (s : Setup) (v from to : ℕ) : Type 0 where
  pub block : to < s.blocks
  pub other : to ≢ block_of s.opening v
  pub origin : from ≡ block_of s.opening v

abbrev pub IsStageMove : Setup → Stage → Type 0
IsStageMove s Idle = Unit {0}
IsStageMove s (Refused v to seen) = IsMoveFromOpening s v (block_of s.opening v) to
IsStageMove s (Granted v from to seen) = IsMoveFromOpening s v from to
IsStageMove s (Moving v from to number named raised lowered owed booked) = IsMoveFromOpening s v from to

-- Moves. What a pass carries it holds, and no vertex more often than it holds it. Each move goes from the vertex's
-- block at the opening to another one.
pub record Moves (s : Setup) (accounts : List Account) : Type 0 where
  pub held : All (λ a. (v : ℕ) → times v (carried a) ≤ times v a.held) accounts
  pub done : All (λ a. All (λ m. IsMoveFromOpening s m.vertex m.from m.to) a.moves) accounts
  pub stages : All (λ a. IsStageMove s a.stage) accounts

-- the numbers that a pass has drawn for its moves
abbrev pub drawn : Account → List ℕ
drawn a = a.numbers ++ number_at a.stage

-- Numbers. The numbers drawn are those below the word `next`, each once.
pub record Numbers (r : Readings) (accounts : List Account) : Type 0 where
  pub each : (i : ℕ) → total (λ a. times i (drawn a)) accounts ≡ (if nat_lt i r.next then 1 else 0)
  pub lengths : All (λ a. length a.numbers ≡ length a.moves) accounts

-- Gains. The gain of a pass is the sum of what it booked on its moves, done and in hand.
abbrev pub IsGain : Account → Type 0
IsGain a = a.gain ≡ total_z (λ m. m.booked) a.moves +ℤ booked_at a.stage

-- Sum. The gains of all passes sum to the cost at the opening, less the cost that the spread words tell.
pub record Sum (s : Setup) (r : Readings) (accounts : List Account) : Type 0 where
  pub gains : total_z (λ a. a.gain) accounts ≡ pos (cost s.graph s.opening) -ℤ pos (sum_below (λ e. price_at s.graph e (r.spread e)) (net_count s.graph))

-- Rest. At most 64 passes were made. The cursor counts the seeds drawn, of which no pass draws more than it may.
-- A pass that has ended has nothing.
pub record Rest (r : Readings) (accounts : List Account) : Type 0 where
  pub made : length accounts ≤ 64
  pub cursor : r.cursor ≡ total (λ a. a.seeds) accounts
  pub seeds : total (λ a. if a.live then max (2 ^ 32) a.seeds else 0) accounts ≤ 2 ^ 32 * length accounts
  pub ended : All (λ a. a.live ≡ false → a ≡ blank false) accounts

-- 1 for the net for which a stage has still to book a block more, or a block less
abbrev pub owed_up : Hyper → ℕ → Stage → ℕ
owed_up h e Idle = 0
owed_up h e (Refused v to seen) = 0
owed_up h e (Granted v from to seen) = 0
owed_up h e (Moving v from to number named raised lowered Nothing booked) = 0
owed_up h e (Moving v from to number named raised lowered Up booked) =
    if nat_eq (slice_index (nets_of h v) (raised - 1)) e then 1 else 0
owed_up h e (Moving v from to number named raised lowered Down booked) = 0

abbrev pub owed_down : Hyper → ℕ → Stage → ℕ
owed_down h e Idle = 0
owed_down h e (Refused v to seen) = 0
owed_down h e (Granted v from to seen) = 0
owed_down h e (Moving v from to number named raised lowered Nothing booked) = 0
owed_down h e (Moving v from to number named raised lowered Up booked) = 0
owed_down h e (Moving v from to number named raised lowered Down booked) =
    if nat_eq (slice_index (nets_of h v) (lowered - 1)) e then 1 else 0

abbrev pub IsOwing : Stage → Type 0
IsOwing Idle = Unit {0}
IsOwing (Refused v to seen) = Unit {0}
IsOwing (Granted v from to seen) = Unit {0}
IsOwing (Moving v from to number named raised lowered Nothing booked) = Unit {0}
IsOwing (Moving v from to number named raised lowered Up booked) = raised ≡ lowered + 1
IsOwing (Moving v from to number named raised lowered Down booked) = (raised ≡ lowered) × (1 ≤ lowered)

-- Spreads. The spread word of a net is 64, and the number of blocks with a positive count, less the passes that owe
-- a block more for it, and with those that owe a block less.
pub record Spreads (s : Setup) (r : Readings) (accounts : List Account) : Type 0 where
  pub word : (e : ℕ) → e < net_count s.graph → r.spread e + total (λ a. owed_up s.graph e a.stage) accounts ≡ 64 + present_below (r.count e) s.blocks
      + total (λ a. owed_down s.graph e a.stage) accounts
  pub owed : All (λ a. IsOwing a.stage) accounts

-- the weight of a list of nets
abbrev pub weights_of : Hyper → List ℕ → ℕ
weights_of h es = total (λ e. (net_of h e).weight) es

-- at most twice the weight lost, and at most twice the weight won
pub record IsBetween (lost won : ℕ) (booked : ℤ) : Type 0 where
  pub low : pos 0 ≤ℤ (booked +ℤ pos (2 * lost))
  pub high : booked ≤ℤ pos (2 * won)

abbrev pub IsBookedWithin : Hyper → Stage → Type 0
IsBookedWithin h Idle = Unit {0}
IsBookedWithin h (Refused v to seen) = Unit {0}
IsBookedWithin h (Granted v from to seen) = Unit {0}
IsBookedWithin h (Moving v from to number named raised lowered Nothing booked) =
    IsBetween (weights_of h (take raised (nets_of h v))) (weights_of h (take lowered (nets_of h v))) booked
IsBookedWithin h (Moving v from to number named raised lowered Up booked) =
    IsBetween (weights_of h (take (raised - 1) (nets_of h v))) (weights_of h (take lowered (nets_of h v))) booked
IsBookedWithin h (Moving v from to number named raised lowered Down booked) =
    IsBetween (weights_of h (take raised (nets_of h v))) (weights_of h (take (lowered - 1) (nets_of h v))) booked

-- Bounds. No move books more than twice the weight of its vertex's nets, either way.
pub record Bounds (h : Hyper) (accounts : List Account) : Type 0 where
  pub done : All (λ a. All (λ m. IsBetween (weights_of h (nets_of h m.vertex)) (weights_of h (nets_of h m.vertex)) m.booked) a.moves) accounts
  pub stages : All (λ a. IsBookedWithin h a.stage) accounts

-- Workers. A move bears the number of the pass that made it. That pass has the move, or it has ended.
pub record Workers (accounts : List Account) : Type 0 where
  pub made : All (λ a. All (λ m. m.worker < length accounts) a.moves) accounts
  pub own : (i : ℕ) → All (λ m. (account_in accounts m.worker).live ≡ true → m.worker ≡ i) (account_in accounts i).moves

-- of moves with their numbers, those whose number passes a test
abbrev pub numbered_by : (ℕ → Bool) → List ℕ → List Move → List Move
numbered_by test [] moves = []
numbered_by test (n ∷ numbers) [] = []
numbered_by test (n ∷ numbers) (m ∷ moves) =
    if test n then m ∷ numbered_by test numbers moves else numbered_by test numbers moves

-- the moves of a pass, done and in hand, that drew a number below i
abbrev pub moves_before : ℕ → Account → List Move
moves_before i a = numbered_by (λ n. nat_lt n i) (drawn a) (a.moves ++ move_at 0 a.stage)

-- Prefixes. With the moves that drew a number below i, done or in hand, and no others, no block is past the limit.
pub record Prefixes (s : Setup) (accounts : List Account) : Type 0 where
  pub fit : (i b : ℕ) → b < s.blocks → load s.graph s.opening b + total (λ a. arrived s.graph b (moves_before i a)) accounts ≤ s.limit
      + total (λ a. departed s.graph b (moves_before i a)) accounts

-- how many pins of a net a pass carried to a block
abbrev pub pins_carried : Hyper → ℕ → ℕ → Account → ℕ
pins_carried h e b a = total (λ m. if nat_eq m.to b then times m.vertex (net_of h e).pins else 0) a.moves

-- the books of a round in balance
pub record InBalance (s : Setup) (r : Readings) (accounts : List Account) : Type 0 where
  pub claims : Claims s.graph r accounts
  pub loads : Loads s r accounts
  pub names : Names s r accounts
  pub counts : Counts s r accounts
  pub moves : Moves s accounts
  pub numbers : Numbers r accounts
  pub gains : All IsGain accounts
  pub sum : Sum s r accounts
  pub rest : Rest r accounts
  pub spreads : Spreads s r accounts
  pub bounds : Bounds s.graph accounts
  pub workers : Workers accounts
  pub prefixes : Prefixes s accounts

-- what a round may be over: a hypergraph within the limits, and an opening partition that fits
pub record IsSetup (s : Setup) : Type 0 where
  pub graph : IsHypergraph s.graph
  pub bounds : IsWithinLimits s.graph
  pub blocks : s.blocks < 2 ^ 32
  pub opening : IsPartition s.graph s.blocks s.opening
  pub fits : Fits s.graph s.blocks s.limit s.opening

-- a state has a word for each vertex, block and net, and a count word for each net and block
pub record IsShaped (s : State) : Type 0 where
  pub claims : length s.claims ≡ vertex_count s.setup.graph
  pub names : length s.names ≡ vertex_count s.setup.graph
  pub loads : length s.loads ≡ s.setup.blocks
  pub counts : length s.counts ≡ net_count s.setup.graph * s.setup.blocks
  pub spreads : length s.spreads ≡ net_count s.setup.graph

-- the state of a round whose books are in balance
pub record IsBooks (s : State) : Type 0 where
  pub setup : IsSetup s.setup
  pub shape : IsShaped s
  pub balance : InBalance s.setup (readings s) s.accounts
