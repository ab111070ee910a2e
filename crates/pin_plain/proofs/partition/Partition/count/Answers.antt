use Rattle.std.proofs.Common.{◌<◌, ◌∙◌, ℕ, List, length, slice_index, sym, ap, subst, arith}
use Rattle.hg_defs.specs.Hypergraph.{Hyper, net_count}
use Rattle.pin_plain.specs.Parted.{Parted}
use Rattle.pin_plain.proofs.CountLaws.{all_words-le, part_inside}
use Rattle.pin_plain.proofs.partition.Partition.count.Goals as goal

pub count-requires-clause-inside : goal.count-requires-clause-inside
count-requires-clause-inside c =
    let h = c.self.inside.hyper.value in
    let hyper = ap (λ (x : Parted). x.hyper) c.self.view_is in
    let k = ap (λ (x : Parted). x.k) c.self.view_is in
    let net = subst (λ (x : Hyper). c.args.e < net_count x) (sym hyper) c.requires.net in
    let low = c.requires.block in
    let words = ap length c.as_slice.ensures.value in
    let start = ap (λ (xs : List ℕ). slice_index xs c.args.e) c.as_slice-starts.ensures.value ∙ c.self.invariant.laid.starts_at c.args.e net in
    let bits = c.from.ensures ∙ ap (λ (xs : List ℕ). slice_index xs c.args.e) c.as_slice-widths.ensures.value ∙ c.self.invariant.wide.width_of c.args.e
    net in
    let inside =
    part_inside h c.self.inside.k c.self.inside.starts.items c.self.inside.words.items c.args.e c.args.b (slice_index c.as_slice-starts.result.now c.args.e)
    c.from.result c.self.invariant.laid net
    (omega arith) start bits in
    omega arith

pub count-requires-clause-few : goal.count-requires-clause-few
count-requires-clause-few c =
    let words = ap length c.as_slice.ensures.value in
    let all = c.self.invariant.laid.all in
    let few = all_words-le c.self.inside.hyper.value c.self.inside.k c.self.invariant.parted.some c.self.invariant.parted.few c.self.invariant.parted.bounds c.self.invariant.parted.suits in
    omega arith
