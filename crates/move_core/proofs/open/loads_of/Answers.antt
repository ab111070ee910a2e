-- One vertex more is loaded into its block.
use Rattle.std.proofs.Common.{◌+◌, length-set, take, slice_index, ap, ◌∙◌, arith}
use Rattle.std.proofs.lemmas.List.{take_all}
use Rattle.std.proofs.lemmas.List.FromFn.{fill_by_all}
use Rattle.hg_defs.specs.Partition.{load, weight_in}
use Rattle.move_core.proofs.TimesLaws.{same_default}
use Rattle.hg_defs.proofs.SumLaws.{weight_in-le, total-take-le}
use Rattle.move_core.proofs.OpenFacts.{loads_more}
use Rattle.move_core.proofs.open.loads_of.Goals as goal

pub index_mut-requires : goal.index_mut-requires
index_mut-requires c =
    let n = c.requires.vertices in
    let v = c.vertices-v-end.ensures.count in
    let b = c.requires.blocks c.loop-v.v 0 (omega arith) in
    let w = c.loop-v.invariant.wide in
    omega arith

pub loop-v-preserved : goal.loop-v-preserved
loop-v-preserved c =
    let n = c.requires.vertices in
    let v = c.vertices-v-end.ensures.count in
    let b = c.requires.blocks c.loop-v.v 0 (omega arith) in
    let w = c.loop-v.invariant.wide in
    let e = c.index_mut.ensures.value ∙ same_default c.loop-v.loads.items (slice_index c.args.p.now c.loop-v.v) c.index_mut.result.now 0 (omega arith) in
    let q = c.vertex_weight.ensures.value in
    record {
      wide = length-set c.loop-v.loads.items (slice_index c.args.p.now c.loop-v.v) (c.index_mut.result.now + c.vertex_weight.result) ∙ w;
      each = loads_more c.args.h.now.weights c.args.p.now c.loop-v.loads.items c.loop-v.v c.args.k (c.index_mut.result.now + c.vertex_weight.result) w
          (omega arith) (omega arith) b c.loop-v.invariant.each (omega arith);
    }

pub returns : goal.returns
returns c =
    let n = c.requires.vertices in
    let v = c.vertices-v-end.ensures.count in
    fill_by_all (load c.args.h.now c.args.p.now) c.loop-v.loads.items c.args.k 0 c.loop-v.invariant.wide
    (λ b l.
    c.loop-v.invariant.each b l
    ∙ ap (λ ws. weight_in ws (take c.loop-v.v c.args.p.now) b) (take_all c.loop-v.v c.args.h.now.weights (omega arith))
    ∙ ap (λ p. weight_in c.args.h.now.weights p b) (take_all c.loop-v.v c.args.p.now (omega arith)))

pub overflow_add-index_mut : goal.overflow_add-index_mut
overflow_add-index_mut c =
    let n = c.requires.vertices in
    let v = c.vertices-v-end.ensures.count in
    let b = c.requires.blocks c.loop-v.v 0 (omega arith) in
    let w = c.loop-v.invariant.wide in
    let e = c.index_mut.ensures.value ∙ same_default c.loop-v.loads.items (slice_index c.args.p.now c.loop-v.v) c.index_mut.result.now 0 (omega arith) in
    let i = c.loop-v.invariant.each (slice_index c.args.p.now c.loop-v.v) b in
    let x = weight_in-le (take c.loop-v.v c.args.h.now.weights) (take c.loop-v.v c.args.p.now) (slice_index c.args.p.now c.loop-v.v) in
    let y = total-take-le (λ z. z) c.args.h.now.weights c.loop-v.v in
    let z = c.vertices-v-end.ensures.bounds.weight in
    let q = c.vertex_weight.ensures.bound in
    omega arith
