-- The sizes of the arrays that the search works on.
use Rattle.std.specs.Prelude.{◌≡◌, ℕ, ◌<◌}
use Rattle.hg_defs.specs.Hypergraph.{Hyper, vertex_count, net_count}

-- how many rows and columns a table has
pub record Size : Type 0 where
  pub rows : ℕ
  pub columns : ℕ

-- how many numbers a list has, and the bound below which they are
pub record Range : Type 0 where
  pub count : ℕ
  pub bound : ℕ

-- the numbers of vertices, nets and blocks of the tables of a candidate
pub record Shape : Type 0 where
  pub vertices : ℕ
  pub nets : ℕ
  pub blocks : ℕ

-- the numbers of vertices and blocks of a whole partition
pub record Whole : Type 0 where
  pub vertices : ℕ
  pub blocks : ℕ

-- a part of so many vertices of a whole, which goes into some of all blocks
pub record Part : Type 0 where
  pub vertices : ℕ
  pub whole : ℕ
  pub all : ℕ
  pub blocks : ℕ

-- the tables are those of a hypergraph of these sizes
pub record IsShapeOf (h : Hyper) (s : Shape) : Type 0 where
  pub vertices : s.vertices ≡ vertex_count h
  pub nets : s.nets ≡ net_count h

-- a vertex and a block that the tables have
abbrev pub IsMoveWithin : Shape → ℕ × ℕ → Type 0
IsMoveWithin s m = (m.0 < s.vertices) × (m.1 < s.blocks)
