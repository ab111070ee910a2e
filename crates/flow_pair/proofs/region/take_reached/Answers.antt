use Rattle.std.proofs.Common.{◌++◌, ◌∙◌, ℕ, List, sym, ap, arith}
use Rattle.std.proofs.lemmas.List.{append-nil}
use Rattle.hg_defs.specs.Hypergraph.{vertex_count}
use Rattle.round_log.specs.Rounds.{taken}
use Rattle.flow_pair.specs.Sides.{is_reached}
use Rattle.flow_pair.proofs.ScanLaws.{scan_heavy, scan_other, scan_taken, scan_full, rest_all}
use Rattle.flow_pair.proofs.region.take_reached.Goals as goal

pub returns-then-left-least : goal.returns-then-left-least
returns-then-left-least c =
    let h = c.args.h.now in
    let n = vertex_count h in
    let test = is_reached h c.args.blocks.now c.args.from c.args.near.now c.args.small.now in
    let v = c.loop-v.v in
    let left = c.loop-v.left in
    let list = c.loop-v.list.items in
    let count = c.vertices-v-end.ensures.count in
    let inside = c.loop-v-test.true in
    sym (append-nil list) ∙ ap (λ (xs : List ℕ). list ++ xs) (sym (scan_full h test v left c.args.least c.requires.least c.if-left-least.true (omega arith)))
    ∙ c.loop-v.invariant ∙ ap (λ (xs : List ℕ). c.args.list.now.items ++ taken h c.args.room xs) (rest_all test n)

pub loop-v-preserved-then-vertex_weight-left : goal.loop-v-preserved-then-vertex_weight-left
loop-v-preserved-then-vertex_weight-left c =
    let h = c.args.h.now in
    let n = vertex_count h in
    let test = is_reached h c.args.blocks.now c.args.from c.args.near.now c.args.small.now in
    let v = c.loop-v.v in
    let left = c.loop-v.left in
    let list = c.loop-v.list.items in
    let count = c.vertices-v-end.ensures.count in
    let inside = c.loop-v-test.true in
    let heavy = c.if-vertex_weight-left.true in
    let weight = c.vertex_weight.ensures.value in
    sym (scan_heavy h test n v left list (omega arith) (omega arith)) ∙ c.loop-v.invariant

pub loop-v-preserved-then-not-is_reached : goal.loop-v-preserved-then-not-is_reached
loop-v-preserved-then-not-is_reached c =
    let h = c.args.h.now in
    let n = vertex_count h in
    let test = is_reached h c.args.blocks.now c.args.from c.args.near.now c.args.small.now in
    let v = c.loop-v.v in
    let left = c.loop-v.left in
    let list = c.loop-v.list.items in
    let count = c.vertices-v-end.ensures.count in
    let inside = c.loop-v-test.true in
    sym (scan_other h test n v left list (omega arith) (sym c.is_reached.ensures ∙ c.if-not-is_reached.true)) ∙ c.loop-v.invariant

pub loop-v-preserved : goal.loop-v-preserved
loop-v-preserved c =
    let h = c.args.h.now in
    let n = vertex_count h in
    let test = is_reached h c.args.blocks.now c.args.from c.args.near.now c.args.small.now in
    let v = c.loop-v.v in
    let left = c.loop-v.left in
    let list = c.loop-v.list.items in
    let count = c.vertices-v-end.ensures.count in
    let inside = c.loop-v-test.true in
    scan_taken h test n v left list (omega arith) c.in_ok-left.left c.take.new.list.items (sym c.is_reached.ensures ∙ c.if-not-is_reached.false)
    c.in_ok-left.ensures
    ∙ c.loop-v.invariant
