use Rattle.std.proofs.Common.{◌≡◌, ◌<◌, ◌∙◌, ℕ, List, [], All, length, slice_index_or, sym, ap, subst, arith}
use Rattle.std.proofs.lemmas.List.{get_or_default}
use Rattle.hg_defs.specs.Hypergraph.{net_count}
use Rattle.flow_pair.specs.CutNets.{HoldsTouching}
use Rattle.flow_pair.proofs.CutNetLaws.{second_holds, none_between, between_none}
use Rattle.flow_pair.proofs.cut_nets.CutNets.touch.Goals as goal

-- a list that was read is that of its block
list_at : (lists cut : List (List ℕ)) (k a : ℕ) (item list : List ℕ) → lists ≡ cut → length cut ≡ k → a < k → list ≡ item
    → item ≡ slice_index_or lists a item → list ≡ slice_index_or cut a []
list_at lists cut k a item list is count low e f =
    e ∙ f ∙ get_or_default lists a item [] (let n = ap length is in omega (arith, n, count, low)) ∙ ap (λ (xs : List (List ℕ)). slice_index_or xs a []) is

pub any_between-requires-clause-nets : goal.any_between-requires-clause-nets
any_between-requires-clause-nets c =
    let low : c.args.a < c.args.p.now.k = (let order = c.requires.order in let second = c.requires.second in omega arith) in
    subst (All (λ e. e < net_count c.args.h.now)) (sym (list_at c.self.inside.lists.items c.args.self.now c.args.p.now.k c.args.a c.index.result.now
    c.slice-firsts.result.now c.self.view_is c.requires.cut.count low c.slice-firsts.ensures c.index.ensures)) (c.requires.cut.each c.args.a low).nets

pub any_between-requires-2-clause-nets : goal.any_between-requires-2-clause-nets
any_between-requires-2-clause-nets c =
    subst (All (λ e. e < net_count c.args.h.now)) (sym (list_at c.self.inside.lists.items c.args.self.now c.args.p.now.k c.args.b c.index-2.result.now
    c.slice-seconds.result.now c.self.view_is c.requires.cut.count c.requires.second c.slice-seconds.ensures c.index-2.ensures))
    (c.requires.cut.each c.args.b c.requires.second).nets

pub returns-then-firsts-seconds : goal.returns-then-firsts-seconds
returns-then-firsts-seconds c =
    let h = c.args.h.now in
    let p = c.args.p.now.blocks in
    let a = c.args.a in
    let b = c.args.b in
    let order = c.requires.order in
    let low : a < c.args.p.now.k = (let second = c.requires.second in omega arith) in
    let is = list_at c.self.inside.lists.items c.args.self.now c.args.p.now.k a c.index.result.now c.slice-firsts.result.now c.self.view_is
    c.requires.cut.count low c.slice-firsts.ensures c.index.ensures in
    let below = subst (All (λ e. e < net_count h)) (sym is) (c.requires.cut.each a low).nets in
    let all = subst (HoldsTouching h p a b) (sym is) ((c.requires.cut.each a low).all b (omega (arith, order))) in (
      λ e. none_between h p a b c.slice-firsts.result.now below all (sym c.any_between.ensures ∙ e),
      λ e. c.any_between.ensures ∙ between_none h p a b c.slice-firsts.result.now below e,
    )

pub returns : goal.returns
returns c =
    let h = c.args.h.now in
    let p = c.args.p.now.blocks in
    let a = c.args.a in
    let b = c.args.b in
    let order = c.requires.order in
    let is = list_at c.self.inside.lists.items c.args.self.now c.args.p.now.k b c.index-2.result.now c.slice-seconds.result.now c.self.view_is
    c.requires.cut.count c.requires.second c.slice-seconds.ensures c.index-2.ensures in
    let below = subst (All (λ e. e < net_count h)) (sym is) (c.requires.cut.each b c.requires.second).nets in
    let all = subst (HoldsTouching h p a b) (sym is) (second_holds h p a b (slice_index_or c.args.self.now b []) (omega (arith, order))
    (c.requires.cut.each b c.requires.second)) in (
      λ e. none_between h p a b c.slice-seconds.result.now below all (sym c.any_between-2.ensures ∙ e),
      λ e. c.any_between-2.ensures ∙ between_none h p a b c.slice-seconds.result.now below e,
    )
