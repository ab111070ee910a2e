-- All vertices in rising order.
use Rattle.std.proofs.Common.{◌≡◌, ℕ, ◌+◌, ◌<◌, length, get_or, sym, ◌∙◌, arith}
use Rattle.std.proofs.lemmas.List.{ext_get_or}
use Rattle.std.proofs.lemmas.List.FromFn.{length-range_with_len, get_or-range_with_len}
use Rattle.hg_defs.specs.Hypergraph.{vertices, vertex_count}
use Rattle.coarsen.proofs.pairing.all_alone.Goals as goal

pub returns : goal.returns
returns c =
    let n = vertex_count c.args.h.now in
    let all : c.loop-v.v ≡ n = omega (arith, c.vertices-v-end.ensures.count, c.loop-v-test.false, c.loop-v.auto.v-end) in
    let long : length c.loop-v.roots.items ≡ n = (let a = c.loop-v.invariant.0 in let b = c.loop-v.roots.ok.0 in omega arith) in
    ext_get_or 0 c.loop-v.roots.items (vertices c.args.h.now) (long ∙ sym (length-range_with_len 0 n))
    (λ u l. c.loop-v.invariant.1 u (omega arith) ∙ sym (get_or-range_with_len 0 n u 0 (omega arith) ∙ (let z : 0 + u ≡ u = omega arith in z)))
