-- The memory of a computation as it begins.
use Rattle.std.specs.Prelude.{ℕ, ◌≤◌, length}
use Rattle.std.specs.Vec.{vec_len}
use Rattle.flow_net.specs.declared.maximum.Workspace.{Workspace}

-- there is room for so many nodes and halves
pub record IsReady (space : Workspace) (nodes halves : ℕ) : Type 0 where
  pub heads : halves ≤ length space.heads.items
  pub nexts : halves ≤ length space.nexts.items
  pub firsts : nodes ≤ length space.firsts.items
  pub rests : halves ≤ vec_len space.rests
  pub levels : nodes ≤ length space.levels.items
  pub ways : nodes ≤ length space.ways.items
  pub currents : nodes ≤ length space.currents.items
  pub entries : nodes ≤ length space.entries.items
  pub queue : nodes ≤ length space.queue.items
  pub line : nodes ≤ length space.line.items
