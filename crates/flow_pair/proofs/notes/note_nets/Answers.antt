use Rattle.std.proofs.Common.{rules, ◌≡◌, ◌+◌, ◌++◌, [], ◌∷◌, slice_index, sym, subst, arith}
use Rattle.hg_defs.specs.Hypergraph.{net_of}
use Rattle.flow_pair.specs.ShortNetwork.{inner_nodes}
use Rattle.flow_pair.proofs.NoteLaws.{AreNotesBelow, notes-none, notes-more, notes-all}
use Rattle.flow_pair.proofs.notes.note_nets.Goals as goal

pub loop-e-init : goal.loop-e-init
loop-e-init c =
    let s = c.args.pair in
    notes-none s.h.now s.blocks.now s.first s.second s.region.now c.args.nets.now _ _ (omega arith)

pub loop-e-preserved : goal.loop-e-preserved
loop-e-preserved c =
    let s = c.args.pair in
    let i = c.loop-e.e-index in
    let pushed : c.push.new.self.items ≡ c.loop-e.notes.items ++ c.in_ok-note_net.field-0 ∷ [] = search rules in
    subst (AreNotesBelow s.h.now s.blocks.now s.first s.second s.region.now (i + 1) c.args.nets.now c.note_net.new.nodes.items) (sym pushed)
    (notes-more s.h.now s.blocks.now s.first s.second s.region.now i c.args.nets.now c.loop-e.nodes.items
    (inner_nodes s.region.now (net_of s.h.now (slice_index c.args.nets.now i)).pins) c.note_net.new.nodes.items c.loop-e.notes.items c.in_ok-note_net.field-0
    c.in_ok-note_net.ensures.nodes c.loop-e.invariant c.in_ok-note_net.ensures.note)

pub returns : goal.returns
returns c =
    let s = c.args.pair in
    notes-all s.h.now s.blocks.now s.first s.second s.region.now c.loop-e.e-index c.args.nets.now c.loop-e.nodes.items c.loop-e.notes.items (omega arith)
    c.loop-e.invariant
