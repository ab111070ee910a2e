-- The state of a clustering: what it is over, its words, and the accounts of its passes.
use Rattle.std.specs.Prelude.{◌≡◌, ℕ, ◌<◌, List, [], replicate, Bool, true, false, nat_eq, slice_index, slice_index_or, slice_set, if◌then◌else◌}
use Rattle.hg_defs.specs.Sums.{total}
use Rattle.hg_defs.specs.Hypergraph.{Hyper, vertex_count}
use Rattle.cluster_core.specs.declared.account.Account.{Account}
use Rattle.cluster_core.specs.declared.account.Stage.TheVariants.{Idle}

-- what a clustering is over: the hypergraph, and the heaviest that a cluster of several vertices may be
pub record Setup : Type 0 where
  pub graph : Hyper
  pub cap : ℕ

-- a word of each kind for each vertex
pub data Word : Type 0 where
  Mark : ℕ → Word
  Mass : ℕ → Word

-- the words as they read. A mark is 0 (nobody has the vertex), 1 (a pass has taken it), or r + 2 (decided, with the root r)
pub record Readings : Type 0 where
  pub mark : ℕ → ℕ
  pub mass : ℕ → ℕ

pub record State : Type 0 where
  pub marks : List ℕ
  pub masses : List ℕ
  pub accounts : List Account

-- how often a number stands in a list
abbrev pub times : ℕ → List ℕ → ℕ
times v xs = total (λ x. if nat_eq x v then 1 else 0) xs

abbrev pub readings : State → Readings
readings s = record { mark = slice_index s.marks; mass = slice_index s.masses }

-- what a word reads
abbrev pub read : Readings → Word → ℕ
read r (Mark v) = r.mark v
read r (Mass v) = r.mass v

-- the state with a number written into a word
abbrev pub written : State → Word → ℕ → State
written s (Mark v) x = record s { marks = slice_set s.marks v x }
written s (Mass v) x = record s { masses = slice_set s.masses v x }

abbrev pub is_mark : Word → ℕ → Bool
is_mark (Mark v) u = nat_eq v u
is_mark (Mass v) u = false

abbrev pub is_mass : Word → ℕ → Bool
is_mass (Mark v) u = false
is_mass (Mass v) u = nat_eq v u

-- x was written into the word, and all other words read as before
pub record Writes (g : Setup) (r r' : Readings) (w : Word) (x : ℕ) : Type 0 where
  pub mark : (v : ℕ) → v < vertex_count g.graph → r'.mark v ≡ (if is_mark w v then x else r.mark v)
  pub mass : (v : ℕ) → v < vertex_count g.graph → r'.mass v ≡ (if is_mass w v then x else r.mass v)

-- an account of nothing
abbrev pub blank : Bool → Account
blank live = record { live = live; taken = []; known = []; stage = Idle }

-- the account of a pass; of a number that no pass has, that of an ended one
abbrev pub account : List Account → ℕ → Account
account accounts i = slice_index_or accounts i (blank false)

-- the state at the opening: nothing taken, each vertex weighs what it weighs, and so many passes that have done nothing
abbrev pub opened : Setup → ℕ → State
opened g passes = record {
  marks = replicate (vertex_count g.graph) 0;
  masses = g.graph.weights;
  accounts = replicate passes (blank true);
}

-- what a clustering of a hypergraph is over
abbrev pub setup_of : Hyper → ℕ → Setup
setup_of h cap = record { graph = h; cap = cap }
