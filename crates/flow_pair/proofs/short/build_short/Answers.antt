use Rattle.std.proofs.Common.{◌∙◌, ◌<◌, All, length, map, filter, not, nat_eq, sym, ap, ap₂, subst, arith}
use Rattle.std.specs.Set.{is_member}
use Rattle.std.proofs.lemmas.List.Elements.{All-weaker}
use Rattle.hg_defs.specs.Hypergraph.{net_count, net_of}
use Rattle.flow_pair.proofs.NetLaws.{inside_all, inside_listed, other_all, touching_all}
use Rattle.flow_pair.proofs.ShortArcLaws.{others_pay, fixed_split, inside-small}
use Rattle.flow_pair.proofs.short.build_short.Goals as goal

pub without-requires-clause-list : goal.without-requires-clause-list
without-requires-clause-list c =
    let s = c.args.pair in
    All-weaker (λ e. e < net_count s.h.now) (λ e. e < length c.args.spots.now) (λ e l. let m = c.requires.spots in omega arith) c.args.touching.now
    (subst (All (λ e. e < net_count s.h.now)) (sym c.requires.touching) (touching_all s.h.now s.blocks.now s.first s.second))

pub without-requires-clause-others : goal.without-requires-clause-others
without-requires-clause-others c =
    let s = c.args.pair in
    All-weaker (λ e. e < net_count s.h.now) (λ e. e < length c.args.spots.now) (λ e l. let m = c.requires.spots in omega arith) c.args.nets.now
    (subst (All (λ e. e < net_count s.h.now)) (sym c.requires.nets) (inside_all s.h.now s.region.now))

pub add_runs-requires-clause-inside : goal.add_runs-requires-clause-inside
add_runs-requires-clause-inside c =
    let s = c.args.pair in
    ap (map (net_of s.h.now)) c.requires.nets ∙ inside_listed s.h.now s.region.now

pub price_of-requires-clause-nets : goal.price_of-requires-clause-nets
price_of-requires-clause-nets c =
    let s = c.args.pair in
    let others = c.as_slice.ensures.value ∙ c.in_ok-others.ensures.left
    ∙ ap₂ (λ own es. filter (λ e. not (is_member nat_eq own e)) es) c.requires.nets c.requires.touching in
    subst (All (λ e. e < net_count s.h.now)) (sym others) (other_all s.h.now s.region.now s.blocks.now s.first s.second)

pub price_of-requires-clause-bounded : goal.price_of-requires-clause-bounded
price_of-requires-clause-bounded c =
    let s = c.args.pair in
    let others = c.as_slice.ensures.value ∙ c.in_ok-others.ensures.left
    ∙ ap₂ (λ own es. filter (λ e. not (is_member nat_eq own e)) es) c.requires.nets c.requires.touching in
    let sum = others_pay s.h.now s.blocks.now s.first s.second s.region.now c.as_slice.result.now others in
    let small = inside-small s.h.now s.blocks.now s.first s.second s.region.now in
    let most = s.above in
    let bound = s.bounded in
    omega arith

pub overflow_add-fixed : goal.overflow_add-fixed
overflow_add-fixed c =
    let s = c.args.pair in
    let others = c.as_slice.ensures.value ∙ c.in_ok-others.ensures.left
    ∙ ap₂ (λ own es. filter (λ e. not (is_member nat_eq own e)) es) c.requires.nets c.requires.touching in
    let sum = others_pay s.h.now s.blocks.now s.first s.second s.region.now c.as_slice.result.now others in
    let inside = c.in_ok-inside.ensures.fixed in
    let paid = c.price_of.ensures in
    let small = inside-small s.h.now s.blocks.now s.first s.second s.region.now in
    let most = s.above in
    let bound = s.bounded in
    omega arith

pub returns-clause-fixed : goal.returns-clause-fixed
returns-clause-fixed c =
    let s = c.args.pair in
    let others = c.as_slice.ensures.value ∙ c.in_ok-others.ensures.left
    ∙ ap₂ (λ own es. filter (λ e. not (is_member nat_eq own e)) es) c.requires.nets c.requires.touching in
    let sum = others_pay s.h.now s.blocks.now s.first s.second s.region.now c.as_slice.result.now others in
    let inside = c.in_ok-inside.ensures.fixed in
    let paid = c.price_of.ensures in
    let all = fixed_split s.h.now s.blocks.now s.first s.second s.region.now s.h.now.nets in
    omega arith
