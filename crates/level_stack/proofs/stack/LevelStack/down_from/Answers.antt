-- The level of the number is the last one that is kept.
use Rattle.std.proofs.Common.{◌∙◌, List, sym}
use Rattle.hg_defs.specs.Hypergraph.{Hyper}
use Rattle.level_stack.proofs.DownLaws.{stacked_is_down, is_down_taken}
use Rattle.level_stack.proofs.stack.LevelStack.down_from.Goals as goal

pub begin-requires-2 : goal.begin-requires-2
begin-requires-2 g c =
    let s = c.self.inside in
    let last = c.take_last-below in
    is_down_taken s.maps s.below.items s.top (stacked_is_down _ _ c.self.invariant) last.result.0.items last.result.1 c.args.i
    (sym {A = List Hyper} c.truncate.ensures.items ∙ last.ensures)
