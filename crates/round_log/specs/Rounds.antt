-- What a recorded round is: raced by workers and rolled back, plain, a sweep, or a minimum cut between two blocks.
use Rattle.std.specs.Prelude.{◌≡◌, ◌≢◌, ℕ, ◌+◌, ◌-◌, ◌*◌, ◌<◌, ◌≤◌, List, [], ◌∷◌, ◌++◌, length, filter, All, AllPairs, slice_index}
use Rattle.std.specs.Prelude.{slice_index_or, ℤ, pos, ◌-ℤ◌, Bool, not, ◌&&◌, nat_eq, nat_le, if◌then◌else◌, ◌⊎◌}
use Rattle.std.specs.List.{list_any}
use Rattle.std.specs.Ordering.{nat_cmp}
use Rattle.hg_defs.specs.declared.objective.Objective.{Objective}
use Rattle.hg_defs.specs.declared.objective.Objective.TheVariants.{Connectivity, CutNet, ExternalDegree}
use Rattle.hg_defs.specs.declared.moves.Move.{Move}
use Rattle.hg_defs.specs.Sums.{total, total_z}
use Rattle.hg_defs.specs.Sorting.{set_of}
use Rattle.hg_defs.specs.Hypergraph.{Net, Hyper, vertex_count, vertices, weight_of, IsFree, is_free}
use Rattle.hg_defs.specs.Partition.{block_of, load, Fits}
use Rattle.hg_defs.specs.Cost.{cost}
use Rattle.hg_defs.specs.Moves.{IsAllowed, moved, gain, sweep}
use Rattle.hg_defs.specs.Replay.{replay, replay_first, best_prefix}
use Rattle.round_log.specs.declared.record.LoggedRound.{LoggedRound}

-- entry v is one more than the place of the move of v, or 0 where v doesn't move
pub record IsOrder (n : ℕ) (moves : List Move) (order : List ℕ) : Type 0 where
  pub vertices : length order ≡ n
  pub moved : (i : ℕ) (m : Move) → i < length moves → slice_index order (slice_index_or moves i m).vertex ≡ i + 1
  pub others : (v : ℕ) → v < n → All (λ m. m.vertex ≢ v) moves → slice_index order v ≡ 0

-- the partition after the moves that a round kept, and after a list of rounds
abbrev pub after_round : List ℕ → LoggedRound → List ℕ
after_round p r = replay_first p r.moves r.kept

abbrev pub after_rounds : List ℕ → List LoggedRound → List ℕ
after_rounds p [] = p
after_rounds p (r ∷ rounds) = after_rounds (after_round p r) rounds

-- the sum that a worker booked
abbrev pub booked_by : List Move → ℕ → ℤ
booked_by moves worker = total_z (λ m. if nat_eq m.worker worker then m.booked else pos 0) moves

-- a move of a free vertex from its block to another one, by one of the workers
pub record IsMove (h : Hyper) (k workers : ℕ) (p : List ℕ) (m : Move) : Type 0 where
  pub vertex : m.vertex < vertex_count h
  pub free : IsFree h m.vertex
  pub from : m.from ≡ block_of p m.vertex
  pub to : m.to < k
  pub other : m.to ≢ m.from
  pub worker : m.worker < workers

-- the round speaks of no pair of blocks
pub record HasNoPair (r : LoggedRound) : Type 0 where
  pub first : r.first ≡ 0
  pub second : r.second ≡ 0
  pub value : r.value ≡ 0
  pub region : r.region ≡ []

-- the moves that workers made of a partition in a race: each vertex moves once at most, and each worker's gain is what it booked
pub record AreRacedMoves (h : Hyper) (k : ℕ) (opening : List ℕ) (moves : List Move) (gains : List ℤ) : Type 0 where
  pub once : AllPairs (λ a b. a.vertex ≢ b.vertex) moves
  pub each : All (IsMove h k (length gains) opening) moves
  pub booked : (i : ℕ) → i < length gains → slice_index_or gains i (pos 0) ≡ booked_by moves i

-- a raced round: the gains sum to the cost before less the cost after all moves, and the best prefix of the moves is kept
pub record IsRaced (h : Hyper) (k l : ℕ) (p : List ℕ) (r : LoggedRound) : Type 0 where
  pub moves : AreRacedMoves h k p r.moves r.gains
  pub sum : total_z (λ g. g) r.gains ≡ pos r.before -ℤ pos r.made
  pub before : r.before ≡ cost h p
  pub made : r.made ≡ cost h (replay p r.moves)
  pub fits : Fits h k l (replay p r.moves)
  pub kept : r.kept ≡ best_prefix h k l p r.moves
  pub after : r.after ≡ cost h (after_round p r)
  pub no_pair : HasNoPair r

-- each move is allowed in its turn, and is booked with its gain there
abbrev pub AreAllowed : Hyper → ℕ → ℕ → List ℕ → List Move → Type 0
AreAllowed h k l p [] = Unit {0}
AreAllowed h k l p (m ∷ moves) =
    IsAllowed h k l p m.vertex m.to
    × (m.booked ≡ gain h p m.vertex m.to)
    × AreAllowed h k l (moved p m.vertex m.to) moves

-- a raced round of one gain whose moves are allowed, each in its turn
pub record IsPlain (h : Hyper) (k l : ℕ) (p : List ℕ) (r : LoggedRound) : Type 0 where
  pub raced : IsRaced h k l p r
  pub one_gain : length r.gains ≡ 1
  pub allowed : AreAllowed h k l p r.moves

-- a sweep that moved something; all its moves are kept
pub record IsSwept (h : Hyper) (k l : ℕ) (p : List ℕ) (r : LoggedRound) : Type 0 where
  pub moves : r.moves ≡ sweep h k l p
  pub some : r.moves ≢ []
  pub gains : r.gains ≡ total_z (λ m. m.booked) r.moves ∷ []
  pub before : r.before ≡ cost h p
  pub kept : r.kept ≡ length r.moves
  pub made : r.made ≡ cost h (replay p r.moves)
  pub after : r.after ≡ r.made
  pub no_pair : HasNoPair r

-- a net with a pin in a block
abbrev pub has_pin : List ℕ → Net → ℕ → Bool
has_pin p e b = list_any (λ v. nat_eq (block_of p v) b) e.pins

-- the nets with pins in both blocks
abbrev pub touching : Hyper → List ℕ → ℕ → ℕ → List Net
touching h p a b = filter (λ e. has_pin p e a && has_pin p e b) h.nets

-- whether a vertex is a pin of a net
abbrev pub holds : Net → ℕ → Bool
holds e v = list_any (nat_eq v) e.pins

-- the free vertices of block a on nets with pins in a and in b
abbrev pub is_near : Hyper → List ℕ → ℕ → ℕ → ℕ → Bool
is_near h p a b v = is_free h v && nat_eq (block_of p v) a && list_any (λ e. holds e v) (touching h p a b)

-- the other free vertices of a on a net of at most 1,000 pins that holds a near vertex of a
abbrev pub is_next : Hyper → List ℕ → ℕ → ℕ → ℕ → Bool
is_next h p a b v =
    is_free h v
    && nat_eq (block_of p v) a
    && not (is_near h p a b v)
    && list_any (λ e. nat_le (length e.pins) 1000 && holds e v && list_any (is_near h p a b) e.pins) h.nets

-- the vertices that are taken while their weights, with those taken before, are within the room
abbrev pub taken : Hyper → ℕ → List ℕ → List ℕ
taken h room [] = []
taken h room (v ∷ vs) =
    let fits = nat_le (weight_of h v) room in
    let later = taken h (if fits then room - weight_of h v else room) vs in
    if fits then v ∷ later else later

-- what a pair's side a may send to b: near vertices first, then the next ones, while b would have room for all
abbrev pub side : Hyper → ℕ → List ℕ → ℕ → ℕ → List ℕ
side h l p a b =
    taken h (l - load h p b) (filter (is_near h p a b) (vertices h) ++ filter (is_next h p a b) (vertices h))

abbrev pub region : Hyper → ℕ → List ℕ → ℕ → ℕ → List ℕ
region h l p a b = set_of nat_cmp (side h l p a b ++ side h l p b a)

-- whether a net has a pin in neither block
abbrev pub leaves : List ℕ → ℕ → ℕ → Net → Bool
leaves p a b e = list_any (λ v. not (nat_eq (block_of p v) a) && not (nat_eq (block_of p v) b)) e.pins

-- what a net pays where it touches both blocks of a pair, over what it pays where it touches one of them
abbrev pub pair_price : Objective → Bool → ℕ → ℕ
pair_price Connectivity leaving w = w
pair_price CutNet leaving w = if leaving then 0 else w
pair_price ExternalDegree leaving w = if leaving then w else 2 * w

abbrev pub pair_cost : Hyper → List ℕ → ℕ → ℕ → ℕ
pair_cost h p a b = total (λ e. pair_price h.objective (leaves p a b e) e.weight) (touching h p a b)

-- q assigns the vertices of a region anew to a and b, and leaves the others as they are in p
pub record IsAssignment (p : List ℕ) (a b : ℕ) (vs q : List ℕ) : Type 0 where
  pub vertices : length q ≡ length p
  pub inside : All (λ v. (block_of q v ≡ a) ⊎ (block_of q v ≡ b)) vs
  pub outside : (v : ℕ) → All (λ u. u ≢ v) vs → block_of q v ≡ block_of p v

-- the moves from p to q of those vertices of the list that change their block, by worker 0 and booked as they are replayed
abbrev pub changes : Hyper → List ℕ → List ℕ → List ℕ → List Move
changes h p q [] = []
changes h p q (v ∷ vs) =
    let b = block_of q v in
    let later = changes h (moved p v b) q vs in
    if nat_eq (block_of p v) b then later else
    (record { vertex = v; from = block_of p v; to = b; worker = 0; booked = gain h p v b } ∷ later)

-- a flow round: the cheapest assignment of the region of a pair to its two blocks
pub record IsFlowRound (h : Hyper) (k l : ℕ) (p : List ℕ) (r : LoggedRound) : Type 0 where
  pub region : r.region ≡ region h l p r.first r.second
  pub assigned : IsAssignment p r.first r.second r.region (after_round p r)
  pub fits : Fits h k l (after_round p r)
  pub cheapest : (q : List ℕ) → IsAssignment p r.first r.second r.region q → cost h (after_round p r) ≤ cost h q
  pub value : r.value ≡ pair_cost h (after_round p r) r.first r.second
  pub moves : r.moves ≡ changes h p (after_round p r) (vertices h)
  pub kept : r.kept ≡ length r.moves
  pub gains : r.gains ≡ total_z (λ m. m.booked) r.moves ∷ []
  pub before : r.before ≡ cost h p
  pub made : r.made ≡ cost h (after_round p r)
  pub after : r.after ≡ r.made
