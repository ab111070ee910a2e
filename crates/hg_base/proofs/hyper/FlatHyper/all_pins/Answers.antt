-- The list of pins has those of all nets one behind the other.
use Rattle.std.proofs.Common.{flat_map, All, sym, ap, ◌∙◌, subst}
use Rattle.hg_defs.specs.Hypergraph.{Net, Hyper, vertex_count, IsNet}
use Rattle.hg_base.proofs.AppendLaws.{first_start, joined_pins}
use Rattle.hg_base.proofs.FlatLaws.{all_below}
use Rattle.hg_base.proofs.hyper.FlatHyper.all_pins.Goals as goal

pub returns-clause-value : goal.returns-clause-value
returns-clause-value c =
    let h = c.self.inside in
    let laid = c.self.invariant.0 in
    let first = first_start h.starts.items h.net_weights.items h.pins.items laid c.self.invariant.1.all_pins in
    c.as_slice.ensures.value
    ∙ sym (joined_pins h.starts.items h.net_weights.items h.pins.items laid first)
    ∙ ap (λ (x : Hyper). flat_map (λ (e : Net). e.pins) x.nets) c.self.view_is

pub returns-clause-below : goal.returns-clause-below
returns-clause-below c =
    let x = c.args.self.now in
    let sound = subst (λ (x : Hyper). All (IsNet (vertex_count x)) x.nets) c.self.view_is c.self.invariant.1.sound.nets in
    rw (returns-clause-value c) (all_below (vertex_count x) x.nets sound)
