use Rattle.std.proofs.Common.{◌<◌, IfSome, sym, subst, arith}
use Rattle.hg_defs.specs.Hypergraph.{net_count}
use Rattle.pin_plain.specs.Counts.{HasStride}
use Rattle.pin_plain.specs.Parted.{Parted}
use Rattle.pin_plain.proofs.CountLaws.{strided-le}
use Rattle.pin_plain.proofs.partition.ready.Ready.place_of_net.Goals as goal

pub overflow_mul-result : goal.overflow_mul-result
overflow_mul-result c =
    let h = c.self.inside.hyper.value in
    let k = c.self.inside.k in
    let parted = c.self.invariant.0.parted in
    let stride = subst (λ o. IfSome o (λ s. HasStride h k s.bits s.first s.words)) c.in-Some.is c.self.invariant.2 in
    let net = subst (λ (x : Parted). c.args.e < net_count x.hyper) (sym c.self.view_is) c.requires in
    let within = strided-le h k parted.some parted.few parted.bounds parted.suits _ _ _ c.args.e stride net in
    omega arith

pub overflow_add-result : goal.overflow_add-result
overflow_add-result c =
    let h = c.self.inside.hyper.value in
    let k = c.self.inside.k in
    let parted = c.self.invariant.0.parted in
    let stride = subst (λ o. IfSome o (λ s. HasStride h k s.bits s.first s.words)) c.in-Some.is c.self.invariant.2 in
    let net = subst (λ (x : Parted). c.args.e < net_count x.hyper) (sym c.self.view_is) c.requires in
    let within = strided-le h k parted.some parted.few parted.bounds parted.suits _ _ _ c.args.e stride net in
    omega arith
