-- What the rest of this crate sees of a pass between two moves.
use Rattle.std.specs.Prelude.{◌≡◌, ℕ}
use Rattle.hg_defs.specs.Hypergraph.{Hyper, vertex_count, net_count}
use Rattle.atomic_table.specs.Seated.{TableId}
use Rattle.move_table.specs.declared.view.Terms.{Terms}
use Rattle.move_table.specs.Calls.{RacedRound, RacedPass}

-- the table and the round that it steps on, its number, and how many seeds it drew
pub record Standing : Type 0 where
  pub table : TableId
  pub terms : Terms
  pub number : ℕ
  pub seeds : ℕ

abbrev pub standing_of : RacedPass → Standing
standing_of p = record {
  table = p.table;
  terms = p.view.terms;
  number = p.view.number;
  seeds = p.view.account.seeds;
}

-- it is one of the round
pub record IsOf (r : RacedRound) (s : Standing) : Type 0 where
  pub same_table : s.table ≡ r.table
  pub same_terms : s.terms ≡ r.terms

-- how large the hypergraph is that a worker's memory is made for, and into how many blocks
pub record Size : Type 0 where
  pub vertices : ℕ
  pub nets : ℕ
  pub blocks : ℕ

-- a worker's pass is one of the round, and its memory is made for the hypergraph and the blocks
pub record IsFit (r : RacedRound) (h : Hyper) (k : ℕ) (s : Standing) (d : Size) : Type 0 where
  pub belongs : IsOf r s
  pub vertices : d.vertices ≡ vertex_count h
  pub nets : d.nets ≡ net_count h
  pub blocks : d.blocks ≡ k

-- memory that is filled for searches of a hypergraph and so many blocks
abbrev pub size_for : Hyper → ℕ → Size
size_for h k = record { vertices = vertex_count h; nets = net_count h; blocks = k }
