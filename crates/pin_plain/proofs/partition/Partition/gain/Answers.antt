use Rattle.std.proofs.Common.{◌≢◌, ◌<◌, ◌∙◌, ℕ, List, slice_index, pos, ◌-ℤ◌, sym, ap, subst}
use Rattle.hg_defs.specs.Sums.{total}
use Rattle.hg_defs.specs.Hypergraph.{Hyper, vertex_count}
use Rattle.hg_defs.specs.Partition.{block_of}
use Rattle.hg_defs.specs.Moves.{gain}
use Rattle.hg_defs.specs.Incidence.{nets_of}
use Rattle.pin_plain.specs.Savings.{net_saved}
use Rattle.pin_plain.proofs.GainLaws.{gain_counted}
use Rattle.pin_plain.proofs.LoadLaws.{signed_difference}
use Rattle.pin_plain.proofs.partition.Partition.gain.Goals as goal

pub returns : goal.returns
returns c =
    let l = c.lend.result in
    let h = l.h.now in
    let p = l.blocks.now in
    let parted = l.told.parted in
    let same = c.lend.ensures in
    let vertex : c.args.v < vertex_count h = subst (λ (x : Hyper). c.args.v < vertex_count x) (sym same.hyper) c.requires.vertex in
    let low : c.args.to < l.k = subst (λ (x : ℕ). c.args.to < x) (sym same.k) c.requires.block in
    let other : c.args.to ≢ block_of p c.args.v =
    λ e. c.if-blocks-v.false (ap (λ (q : List ℕ). slice_index q c.args.v) (c.blocks-2.ensures.value ∙ sym same.blocks) ∙ sym e) in
    let a = c.saved_and_lost-saved.result.0 in
    let b = c.saved_and_lost-saved.result.1 in
    signed_difference a b c.saved_and_lost-saved.ensures.saved_bound c.saved_and_lost-saved.ensures.lost_bound
    ∙ ap (λ (x : ℕ). pos x -ℤ pos b) c.saved_and_lost-saved.ensures.saved
    ∙ ap (λ (x : ℕ). pos (total (net_saved h p c.args.to) (nets_of h c.args.v)) -ℤ pos x) c.saved_and_lost-saved.ensures.lost
    ∙ sym (gain_counted h l.k p c.args.v c.args.to parted.sound parted.partition vertex low other)
    ∙ ap (λ (x : Hyper). gain x p c.args.v c.args.to) same.hyper
    ∙ ap (λ (q : List ℕ). gain c.args.h.now q c.args.v c.args.to) same.blocks
