use Rattle.std.proofs.Common.{◌≡◌, ◌<◌, ◌∙◌, ℕ, List, [], All, length, filter, nat_eq, slice_index_or, sym, ap, ap₂, subst, arith}
use Rattle.std.specs.Set.{is_member}
use Rattle.std.proofs.lemmas.List.{get_or_default}
use Rattle.std.proofs.lemmas.List.Elements.{All-weaker}
use Rattle.hg_defs.specs.Hypergraph.{net_count}
use Rattle.flow_pair.specs.CutNets.{HoldsTouching}
use Rattle.flow_pair.proofs.CutNetLaws.{common_holds, common_below}
use Rattle.flow_pair.proofs.cut_nets.CutNets.between.Goals as goal

pub common_of-requires-clause-list : goal.common_of-requires-clause-list
common_of-requires-clause-list c =
    let lists : List (List ℕ) = c.self.inside.lists.items in
    let is : lists ≡ c.args.self.now = c.self.view_is in
    let count = c.requires.cut.count in
    let order = c.requires.order in
    let second = c.requires.second in
    let firsts : c.slice-firsts.result.now ≡ slice_index_or c.args.self.now c.args.a [] =
    c.slice-firsts.ensures ∙ c.index.ensures
    ∙ get_or_default lists c.args.a c.index.result.now [] (let n = ap length is in omega (arith, n, count, order, second))
    ∙ ap (λ (xs : List (List ℕ)). slice_index_or xs c.args.a []) is in
    All-weaker (λ e. e < net_count c.args.h.now) (λ e. e < length c.args.spots.now) (λ e l. let m = c.requires.spots in omega (arith, l, m))
    c.slice-firsts.result.now
    (subst (All (λ e. e < net_count c.args.h.now)) (sym firsts) (c.requires.cut.each c.args.a (omega (arith, order, second))).nets)

pub common_of-requires-clause-other : goal.common_of-requires-clause-other
common_of-requires-clause-other c =
    let lists : List (List ℕ) = c.self.inside.lists.items in
    let is : lists ≡ c.args.self.now = c.self.view_is in
    let count = c.requires.cut.count in
    let second = c.requires.second in
    let seconds : c.slice-seconds.result.now ≡ slice_index_or c.args.self.now c.args.b [] =
    c.slice-seconds.ensures ∙ c.index-2.ensures
    ∙ get_or_default lists c.args.b c.index-2.result.now [] (let n = ap length is in omega (arith, n, count, second))
    ∙ ap (λ (xs : List (List ℕ)). slice_index_or xs c.args.b []) is in
    All-weaker (λ e. e < net_count c.args.h.now) (λ e. e < length c.args.spots.now) (λ e l. let m = c.requires.spots in omega (arith, l, m))
    c.slice-seconds.result.now
    (subst (All (λ e. e < net_count c.args.h.now)) (sym seconds) (c.requires.cut.each c.args.b second).nets)

pub nets_between-requires-clause-nets : goal.nets_between-requires-clause-nets
nets_between-requires-clause-nets c =
    let lists : List (List ℕ) = c.self.inside.lists.items in
    let is : lists ≡ c.args.self.now = c.self.view_is in
    let count = c.requires.cut.count in
    let order = c.requires.order in
    let second = c.requires.second in
    let firsts : c.slice-firsts.result.now ≡ slice_index_or c.args.self.now c.args.a [] =
    c.slice-firsts.ensures ∙ c.index.ensures
    ∙ get_or_default lists c.args.a c.index.result.now [] (let n = ap length is in omega (arith, n, count, order, second))
    ∙ ap (λ (xs : List (List ℕ)). slice_index_or xs c.args.a []) is in
    subst (All (λ e. e < net_count c.args.h.now)) (sym (c.as_slice.ensures.value ∙ c.in_ok-both.ensures.common))
    (common_below (net_count c.args.h.now) c.slice-firsts.result.now c.slice-seconds.result.now
    (subst (All (λ e. e < net_count c.args.h.now)) (sym firsts) (c.requires.cut.each c.args.a (omega (arith, order, second))).nets))

pub nets_between-requires-clause-all : goal.nets_between-requires-clause-all
nets_between-requires-clause-all c =
    let h = c.args.h.now in
    let p = c.args.p.now.blocks in
    let a = c.args.a in
    let b = c.args.b in
    let lists : List (List ℕ) = c.self.inside.lists.items in
    let is : lists ≡ c.args.self.now = c.self.view_is in
    let count = c.requires.cut.count in
    let order = c.requires.order in
    let second = c.requires.second in
    let firsts : c.slice-firsts.result.now ≡ slice_index_or c.args.self.now a [] =
    c.slice-firsts.ensures ∙ c.index.ensures
    ∙ get_or_default lists a c.index.result.now [] (let n = ap length is in omega (arith, n, count, order, second))
    ∙ ap (λ (xs : List (List ℕ)). slice_index_or xs a []) is in
    let seconds : c.slice-seconds.result.now ≡ slice_index_or c.args.self.now b [] =
    c.slice-seconds.ensures ∙ c.index-2.ensures
    ∙ get_or_default lists b c.index-2.result.now [] (let n = ap length is in omega (arith, n, count, second))
    ∙ ap (λ (xs : List (List ℕ)). slice_index_or xs b []) is in
    let both = c.as_slice.ensures.value ∙ c.in_ok-both.ensures.common
    ∙ ap₂ (λ (xs ys : List ℕ). filter (is_member nat_eq ys) xs) firsts seconds in
    subst (HoldsTouching h p a b) (sym both)
    (common_holds h p a b (slice_index_or c.args.self.now a []) (slice_index_or c.args.self.now b []) (omega (arith, order))
    (c.requires.cut.each a (omega (arith, order, second))) (c.requires.cut.each b second))
