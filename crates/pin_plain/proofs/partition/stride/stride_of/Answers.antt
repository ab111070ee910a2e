use Rattle.std.proofs.Common.{rules, ◌≡◌, All, ◌∙◌, sym, arith}
use Rattle.pin_plain.proofs.CountLaws.{strided}
use Rattle.pin_plain.proofs.partition.stride.stride_of.Goals as goal

pub returns-clause-stride : goal.returns-clause-stride
returns-clause-stride c =
    let even : All (λ w. w ≡ c.from-bits.result) c.args.widths.now = search rules in
    let nets = c.requires.wide.nets in
    strided c.args.h.now c.args.k c.from-bits.result _ _ (λ e l. sym (c.requires.wide.width_of e l) ∙ even e 0 (omega arith))
    (omega (arith, c.vertices.ensures.count)) (omega (arith, c.div_ceil.ensures))
