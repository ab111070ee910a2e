use Rattle.std.proofs.Common.{pos, ap, ◌++◌, ◌∙◌}
use Rattle.hg_defs.specs.declared.moves.Move.{Move}
use Rattle.hg_defs.specs.Incidence.{nets_of}
use Rattle.flow_pair.proofs.MemberLaws.{flat_map_next}
use Rattle.flow_pair.proofs.cut.add_nets_of.Goals as goal

pub loop-step-preserved : goal.loop-step-preserved
loop-step-preserved c =
    let none : Move = record { vertex = 0; from = 0; to = 0; worker = 0; booked = pos 0 } in
    flat_map_next (λ (m : Move). nets_of c.args.h.now m.vertex) c.args.moves.now c.loop-step.step-index none c.args.list.now.items
    c.loop-step.list.items c.extend_from_slice.new.self.items c.loop-step-test.true
    (c.in_ok-extend_from_slice.ensures.items ∙ ap (λ nets. c.loop-step.list.items ++ nets) c.nets_of.ensures.value) c.loop-step.invariant
