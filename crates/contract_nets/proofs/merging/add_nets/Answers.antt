-- One list more.
use Rattle.std.proofs.Common.{◌≡◌, ◌+◌, List, [], ◌++◌, length, take, drop, All, sym, subst, ap, ◌∙◌}
use Rattle.std.proofs.lemmas.List.{get_or_read}
use Rattle.hg_defs.specs.Hypergraph.{Net, Hyper, vertex_count, IsNet, IsWithinLimits}
use Rattle.contract_nets.specs.Nets.{all_nets}
use Rattle.contract_nets.proofs.NetLaws.{all_nets-take_more, all_nets-split, All-middle, front_within}
use Rattle.contract_nets.proofs.merging.add_nets.Goals as goal

pub add_to-requires-clause-nets : goal.add_to-requires-clause-nets
add_to-requires-clause-nets c =
    let h = c.args.coarse.now in
    let lists = c.args.lists.now in
    let k = c.loop-k.k in
    let list = c.index-lists-k.result in
    let read = get_or_read lists k list c.loop-k-test.true c.index-lists-k.is [] in
    let more = all_nets-take_more lists k c.loop-k-test.true in
    let front = all_nets (take k lists) in
    let back = all_nets (drop (k + 1) lists) in
    let all : all_nets lists ≡ front ++ list ++ back =
    all_nets-split lists (k + 1) ∙ ap (λ (xs : List Net). xs ++ back) (more ∙ ap (λ (ys : List Net). front ++ ys) (sym read))
    in
    subst (λ (x : Hyper). All (IsNet (length x.weights)) list) (sym c.loop-k.invariant)
    (All-middle (IsNet (vertex_count h)) front list back (subst (All (IsNet (vertex_count h))) all c.requires.nets))

pub add_to-requires-clause-limits : goal.add_to-requires-clause-limits
add_to-requires-clause-limits c =
    let h = c.args.coarse.now in
    let lists = c.args.lists.now in
    let k = c.loop-k.k in
    let list = c.index-lists-k.result in
    let read = get_or_read lists k list c.loop-k-test.true c.index-lists-k.is [] in
    let more = all_nets-take_more lists k c.loop-k-test.true in
    let front = all_nets (take k lists) in
    let back = all_nets (drop (k + 1) lists) in
    let all : all_nets lists ≡ front ++ list ++ back =
    all_nets-split lists (k + 1) ∙ ap (λ (xs : List Net). xs ++ back) (more ∙ ap (λ (ys : List Net). front ++ ys) (sym read))
    in
    subst (λ (x : Hyper). IsWithinLimits (record x { nets = x.nets ++ list })) (sym c.loop-k.invariant)
    (front_within h (front ++ list) back (subst (λ (ns : List Net). IsWithinLimits (record h { nets = ns })) all c.requires.limits))

pub loop-k-preserved : goal.loop-k-preserved
loop-k-preserved c =
    let h = c.args.coarse.now in
    let lists = c.args.lists.now in
    let k = c.loop-k.k in
    let list = c.index-lists-k.result in
    let read = get_or_read lists k list c.loop-k-test.true c.index-lists-k.is [] in
    let more = all_nets-take_more lists k c.loop-k-test.true in
    let front = all_nets (take k lists) in
    c.in_ok-add_to.ensures
    ∙ ap (λ (x : Hyper). let y : Hyper = record x { nets = x.nets ++ list } in y) c.loop-k.invariant
    ∙ ap (λ (ns : List Net). let y : Hyper = record h { nets = ns } in y) (ap (λ (ys : List Net). front ++ ys) read ∙ sym more)
