use Rattle.std.proofs.Common.{◌≡◌, ◌<◌, ◌^◌, ◌∙◌, ℕ, Option, option_map, IfSome, pos, sym, ap, subst, arith}
use Rattle.hg_defs.specs.Hypergraph.{IsFree}
use Rattle.hg_defs.specs.Partition.{block_of}
use Rattle.hg_defs.specs.Moves.{gain}
use Rattle.pin_plain.specs.Scores.{IsTop}
use Rattle.pin_plain.proofs.BestLaws.{fixed_stays, dearer_stays, saved_past, top_best, map_first, found_gain, found_bound, load_fits}
use Rattle.std.proofs.lemmas.Bool.{not-true}
use Rattle.pin_plain.proofs.QuietLaws.{quiet_by_sums}
use Rattle.pin_plain.proofs.scores.Scores.seek.Goals as goal

pub returns-then-fix-ne-FREE-clause-best : goal.returns-then-fix-ne-FREE-clause-best
returns-then-fix-ne-FREE-clause-best c =
    let l = c.args.lent.now in
    fixed_stays l.h.now l.k c.args.lent.now.limit l.blocks.now c.args.v c.requires.vertex (λ e. c.if-fix-ne-FREE.true (c.fix.ensures.value ∙ e))

pub returns-then-most-down-clause-best : goal.returns-then-most-down-clause-best
returns-then-most-down-clause-best c =
    let l = c.args.lent.now in
    dearer_stays l.h.now l.k l.limit l.blocks.now c.args.v l.told.parted.sound l.told.parted.partition c.requires.vertex
    (λ b other.
    let most = c.most_and_lost-most.ensures.most b other in
    let lost = c.most_and_lost-most.ensures.lost in
    let less = c.if-most-down.true in
    omega arith)

pub returns-then-most-down-clause-quiet : goal.returns-then-most-down-clause-quiet
returns-then-most-down-clause-quiet c known =
    let l = c.args.lent.now in
    quiet_by_sums l.h.now l.k l.blocks.now c.args.v l.told.parted.sound l.told.parted.partition c.requires.vertex
    (λ b low other.
    let most = c.most_and_lost-most.ensures.most b other in
    let lost = c.most_and_lost-most.ensures.lost in
    let less = c.if-most-down.true in
    omega arith)

pub top-top-requires-clause-past : goal.top-top-requires-clause-past
top-top-requires-clause-past c b past =
    let l = c.args.lent.now in
    let whole = c.args.lent.now.told.parted.partition in
    let long = whole.vertices in
    let vertex = c.requires.vertex in
    let low = whole.blocks c.args.v 0 (omega arith) in
    let size = c.args.lent.now.loaded.all in
    c.score-loss.ensures.sums b (λ e. absurd (omega arith)) ∙ saved_past l.h.now l.k l.blocks.now l.starts.now l.words.now b c.args.v c.args.lent.now.told
    (omega arith)

pub top-top-requires-clause-loads : goal.top-top-requires-clause-loads
top-top-requires-clause-loads c =
    let l = c.args.lent.now in
    load_fits l.h.now l.k l.blocks.now c.args.lent.now.loads.now c.vertex_weight-weight.result c.args.lent.now.told.parted.bounds c.args.lent.now.loaded
    c.vertex_weight-weight.ensures.bound

pub returns-clause-best : goal.returns-clause-best
returns-clause-best c =
    let l = c.args.lent.now in
    let sums = c.score-loss.new.self.sums in
    let free : IsFree l.h.now c.args.v = sym c.fix.ensures.value ∙ c.if-fix-ne-FREE.false in
    let top = subst (λ (w : ℕ). IsTop sums c.args.lent.now.loads.now c.args.lent.now.limit w (block_of l.blocks.now c.args.v) c.score-loss.result
    c.top-top.result) c.vertex_weight-weight.ensures.value c.top-top.ensures in
    ap (option_map (λ (m : ℕ × ℕ). m.0)) c.with_gain-best.ensures
    ∙ map_first sums c.score-loss.result c.top-top.result
    ∙ top_best l.h.now l.k c.args.lent.now.limit l.blocks.now l.starts.now l.words.now c.args.lent.now.loads.now sums c.args.v c.score-loss.result
    c.args.lent.now.told c.args.lent.now.loaded c.requires.vertex free c.score-loss.ensures.lost
    c.score-loss.ensures.sums c.top-top.result top

pub returns-clause-gain : goal.returns-clause-gain
returns-clause-gain c =
    let l = c.args.lent.now in
    let sums = c.score-loss.new.self.sums in
    let free : IsFree l.h.now c.args.v = sym c.fix.ensures.value ∙ c.if-fix-ne-FREE.false in
    let top = subst (λ (w : ℕ). IsTop sums c.args.lent.now.loads.now c.args.lent.now.limit w (block_of l.blocks.now c.args.v) c.score-loss.result
    c.top-top.result) c.vertex_weight-weight.ensures.value c.top-top.ensures in
    subst (λ (o : Option (ℕ × ℕ)). IfSome o (λ m. pos m.1 ≡ gain l.h.now l.blocks.now c.args.v m.0)) (sym c.with_gain-best.ensures)
    (found_gain l.h.now l.k c.args.lent.now.limit l.blocks.now l.starts.now l.words.now c.args.lent.now.loads.now sums c.args.v c.score-loss.result
    c.args.lent.now.told c.args.lent.now.loaded c.requires.vertex free c.score-loss.ensures.lost
    c.score-loss.ensures.sums c.top-top.result top)

pub returns-clause-bound : goal.returns-clause-bound
returns-clause-bound c =
    let l = c.args.lent.now in
    let sums = c.score-loss.new.self.sums in
    let free : IsFree l.h.now c.args.v = sym c.fix.ensures.value ∙ c.if-fix-ne-FREE.false in
    let top = subst (λ (w : ℕ). IsTop sums c.args.lent.now.loads.now c.args.lent.now.limit w (block_of l.blocks.now c.args.v) c.score-loss.result
    c.top-top.result) c.vertex_weight-weight.ensures.value c.top-top.ensures in
    subst (λ (o : Option (ℕ × ℕ)). IfSome o (λ m. m.1 < 2 ^ 55)) (sym c.with_gain-best.ensures)
    (found_bound l.h.now l.k c.args.lent.now.limit l.blocks.now l.starts.now l.words.now c.args.lent.now.loads.now sums c.args.v c.score-loss.result
    c.args.lent.now.told c.args.lent.now.loaded c.requires.vertex free c.score-loss.ensures.lost
    c.score-loss.ensures.sums c.top-top.result top)

pub returns-clause-quiet : goal.returns-clause-quiet
returns-clause-quiet c known =
    let l = c.args.lent.now in
    quiet_by_sums l.h.now l.k l.blocks.now c.args.v l.told.parted.sound l.told.parted.partition c.requires.vertex
    (λ b low other.
    let none = c.pass-quiet.ensures (not-true c.pass-quiet.result known) b in
    let saved = c.score-loss.ensures.sums b other in
    let lost = c.score-loss.ensures.lost in
    omega arith)
