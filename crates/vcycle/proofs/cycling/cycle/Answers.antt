use Rattle.std.proofs.Common.{◌∙◌, ℕ, List, ap, subst}
use Rattle.hg_defs.specs.Hypergraph.{IsHypergraph}
use Rattle.pin_plain.specs.Parted.{Parted}
use Rattle.vcycle.specs.Climb.{ClimbsInside}
use Rattle.vcycle.proofs.ClimbLemmas.{climbed_sound, settles_told, cycle_made, cycle_ends, cycle_tallied}
use Rattle.vcycle.proofs.cycling.cycle.Goals as goal

pub uncoarsen-requires-clause-start : goal.uncoarsen-requires-clause-start
uncoarsen-requires-clause-start g c κs within =
    let s = c.in_ok-stack.stack in
    let start = c.in_ok-stack.start in
    let up = subst (λ (x : List ℕ). ClimbsInside c.args.h c.args.k x s c.in_ok-stack.stop start.level start.blocks) c.into_blocks.ensures
    c.in_ok-stack.ensures in
    climbed_sound c.args.h c.args.k c.args.p.blocks s c.in_ok-stack.stop start.level start.blocks up c.args.limit
    (subst IsHypergraph (ap (λ (x : Parted). x.hyper) c.requires.belongs) c.blocks-blocks.ensures.parted.sound) c.requires.sound

pub returns-clause-cycle : goal.returns-clause-cycle
returns-clause-cycle g c =
    let s = c.in_ok-stack.stack in
    let start = c.in_ok-stack.start in
    let trace = c.in_ok-h.trace in
    let q = c.settle_with.new.self.blocks in
    let up = subst (λ (x : List ℕ). ClimbsInside c.args.h c.args.k x s c.in_ok-stack.stop start.level start.blocks) c.into_blocks.ensures
    c.in_ok-stack.ensures in
    cycle_made _ c.args.h c.args.k c.args.limit c.args.workers c.args.p.blocks s c.in_ok-stack.stop start.level start.blocks trace up
    c.in_ok-h.ensures.trace q c.settle_with.new.log c.in_ok-settle_with.field-0
    (settles_told c.args.h c.in_ok-h.h s.base c.args.k c.args.limit trace.last c.in_ok-h.last q trace.rounds c.settle_with.new.log
    c.in_ok-settle_with.field-0 up.base c.in_ok-h.ensures.hypergraph c.in_ok-h.ensures.partition c.in_ok-settle_with.ensures.ok)

pub returns-clause-settled : goal.returns-clause-settled
returns-clause-settled g c =
    let s = c.in_ok-stack.stack in
    let start = c.in_ok-stack.start in
    let trace = c.in_ok-h.trace in
    let q = c.settle_with.new.self.blocks in
    let up = subst (λ (x : List ℕ). ClimbsInside c.args.h c.args.k x s c.in_ok-stack.stop start.level start.blocks) c.into_blocks.ensures
    c.in_ok-stack.ensures in
    cycle_ends _ c.args.h c.args.k c.args.limit c.args.workers c.args.p.blocks s c.in_ok-stack.stop start.level start.blocks trace up
    c.in_ok-h.ensures.trace q c.settle_with.new.log c.in_ok-settle_with.field-0
    (settles_told c.args.h c.in_ok-h.h s.base c.args.k c.args.limit trace.last c.in_ok-h.last q trace.rounds c.settle_with.new.log
    c.in_ok-settle_with.field-0 up.base c.in_ok-h.ensures.hypergraph c.in_ok-h.ensures.partition c.in_ok-settle_with.ensures.ok)
    c.in_ok-h.ensures.sound

pub returns-clause-tallies : goal.returns-clause-tallies
returns-clause-tallies g c =
    let s = c.in_ok-stack.stack in
    let start = c.in_ok-stack.start in
    let trace = c.in_ok-h.trace in
    let q = c.settle_with.new.self.blocks in
    let up = subst (λ (x : List ℕ). ClimbsInside c.args.h c.args.k x s c.in_ok-stack.stop start.level start.blocks) c.into_blocks.ensures
    c.in_ok-stack.ensures in
    c.in_ok-h.ensures.tallies
    ∙ cycle_tallied _ c.args.h c.args.k c.args.limit c.args.workers c.args.p.blocks s c.in_ok-stack.stop start.level start.blocks trace up
    c.in_ok-h.ensures.trace q c.settle_with.new.log c.in_ok-settle_with.field-0
    (settles_told c.args.h c.in_ok-h.h s.base c.args.k c.args.limit trace.last c.in_ok-h.last q trace.rounds c.settle_with.new.log
    c.in_ok-settle_with.field-0 up.base c.in_ok-h.ensures.hypergraph c.in_ok-h.ensures.partition c.in_ok-settle_with.ensures.ok) _
