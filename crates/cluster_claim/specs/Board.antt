-- The table that the workers of a clustering share: what its words read, what its seats know, and what holds of them.
use Rattle.std.specs.Prelude.{◌≡◌, ℕ, ◌+◌, ◌*◌, ◌<◌, ◌≤◌, List, length, map, slice_index}
use Rattle.atomic_table.specs.Table.{State}
use Rattle.atomic_table.specs.Seated.{TableId}
use Rattle.hg_defs.specs.Sums.{total}
use Rattle.hg_defs.specs.Hypergraph.{Hyper, vertex_count, IsWithinLimits}
use Rattle.cluster_core.specs.declared.account.Account.{Account}
use Rattle.cluster_core.specs.State.{Setup, Readings, setup_of}
use Rattle.cluster_core.specs.Balance.{InBalance}
use Rattle.cluster_claim.specs.declared.board.Key.{Key}
use Rattle.cluster_claim.specs.declared.board.View.{View}

-- what a seat knows: how many passes it may still make, and the account of its pass
abbrev pub view : ℕ → Account → View
view spare account = record { spare = spare; account = account }

-- the marks of all vertices stand first, and then their masses
abbrev pub readings_of : ℕ → List ℕ → Readings
readings_of n words = record { mark = slice_index words; mass = λ v. slice_index words (n + v) }

abbrev pub accounts_of : List View → List Account
accounts_of views = map (λ v. v.account) views

-- the words and the accounts of all passes are in balance; the passes made and those that may still be made are as many
-- as the workers
pub record IsKept (g : Setup) (workers : ℕ) (s : State (Unit {0}) View) : Type 0 where
  pub wide : length s.words ≡ 2 * vertex_count g.graph
  pub some : 0 < vertex_count g.graph
  pub bounds : IsWithinLimits g.graph
  pub balance : InBalance g (readings_of (vertex_count g.graph) s.words) (accounts_of s.views)
  pub made : total (λ v. v.spare) s.views + length s.views ≡ workers
  pub few : workers ≤ 64

-- what a table is over
abbrev pub setup_at : Key → Setup
setup_at key = setup_of key.graph.value key.cap

-- the table is over this hypergraph and this cap, and has the words for them
pub record IsBoard (key : Key) (id : TableId) (h : Hyper) (cap : ℕ) : Type 0 where
  pub same_graph : key.graph.value ≡ h
  pub same_cap : key.cap ≡ cap
  pub words : id.words ≡ 2 * vertex_count h
  pub slots : id.slots ≡ 0
  pub some : 0 < vertex_count h
  pub bounds : IsWithinLimits h
