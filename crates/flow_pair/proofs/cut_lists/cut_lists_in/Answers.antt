use Rattle.std.proofs.Common.{◌≤◌, ◌∙◌, ℕ, List, [], replicate, ap, arith}
use Rattle.flow_pair.proofs.CutNetLaws.{lists_none, lists_more, lists_end}
use Rattle.flow_pair.proofs.cut_lists.cut_lists_in.Goals as goal

pub loop-e-init : goal.loop-e-init
loop-e-init c =
    let none : List ℕ = [] in
    lists_none c.args.h.now c.args.p.now.k c.args.p.now.blocks c.args.from c.in_ok-lists.lists.items
    (c.in_ok-lists.ensures ∙ ap (λ n. replicate n none) c.k.ensures)

pub loop-e-preserved : goal.loop-e-preserved
loop-e-preserved c =
    lists_more c.args.h.now c.args.p.now.k c.args.p.now.blocks c.args.from c.loop-e.e c.loop-e.lists.items c.note_cut.new.lists.items
    c.in_ok-note_cut.ensures.kept c.in_ok-note_cut.ensures.noted c.loop-e.invariant

pub returns : goal.returns
returns c =
    let end : c.args.to ≤ c.loop-e.e = (let t = c.loop-e-test.false in omega arith) in
    lists_end c.args.h.now c.args.p.now.k c.args.p.now.blocks c.args.from c.args.to c.loop-e.e c.loop-e.lists.items end c.loop-e.invariant
