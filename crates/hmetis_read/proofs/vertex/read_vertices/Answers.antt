use Rattle.std.proofs.Common.{◌≡◌, ◌+◌, ◌-◌, ◌^◌, ◌<◌, ◌⊎◌, ℕ, List, ◌∷◌, length, take, drop, set, Err, sym, ◌∙◌, ap, arith, inr}
use Rattle.std.proofs.lemmas.List.{take_more_set, length-set}
use Rattle.std.proofs.lemmas.List.Elements.{All-same, All-set}
use Rattle.std.proofs.lemmas.Result.{err_from_is_err_and}
use Rattle.hg_defs.specs.Hypergraph.{Hyper, vertex_count}
use Rattle.hg_text.specs.Kept.{Line}
use Rattle.hmetis_read.specs.Graph.{vertex_in, each, first_in}
use Rattle.hmetis_read.specs.declared.fault.GraphFault.TheVariants.{NoMemory}
use Rattle.hmetis_read.proofs.Each.{with_front, front_ok, front_err, first_err}
use Rattle.hmetis_read.proofs.Lines.{drop_rest, drop_some, take_step, total_others, weights_twice}
use Rattle.hmetis_read.proofs.vertex.read_vertices.Goals as goal

pub set_vertex_weight-requires-clause-fits : goal.set_vertex_weight-requires-clause-fits
set_vertex_weight-requires-clause-fits c =
    let i : ℕ = c.loop-vertex.vertex in
    let bound : c.in_ok-read_vertex.field-0 < 2 ^ 32 = c.in_ok-read_vertex.ensures.bound in
    omega (arith, total_others c.loop-vertex.hyper.weights i (omega arith) c.loop-vertex.invariant.weights, c.vertices-vertex-end.ensures.bounds.vertices)

pub returns-in_err-read_vertex-clause-weights : goal.returns-in_err-read_vertex-clause-weights
returns-in_err-read_vertex-clause-weights c =
    let i : ℕ = c.loop-vertex.vertex in
    let n : ℕ = vertex_count c.args.hyper.now in
    let ws : List ℕ = c.loop-vertex.hyper.weights in
    let later : List Line = c.next_kept.new.self.kept in
    let now : take (n - i) c.loop-vertex.lines.kept ≡ c.in-Some.line ∷ take (n - (i + 1)) later =
    ap (take (n - i)) c.in-Some.ensures.kept ∙ take_step n i c.in-Some.line later (omega arith) in
    let p = err_from_is_err_and c.from_residual.result c.from_residual.ensures.1 in
    let cause : (c.in_err-read_vertex.field-0.0 ≡ NoMemory) ⊎ (first_in n (each vertex_in) c.args.lines.now ≡ Err c.in_err-read_vertex.field-0.0) =
    inr (first_err n (each vertex_in) c.args.lines.now c.in_err-read_vertex.field-0.0
    (sym c.loop-vertex.invariant.read
    ∙ ap (λ (ls : List Line). with_front (take i ws) (each vertex_in ls)) now
    ∙ front_err vertex_in (take i ws) c.in-Some.line (take (n - (i + 1)) later) c.in_err-read_vertex.field-0.0
    (sym c.in_err-read_vertex.ensures.value))) in
    rw (p.1, p.2) cause

pub loop-vertex-preserved : goal.loop-vertex-preserved
loop-vertex-preserved c =
    let kept : List Line = c.args.lines.now.kept in
    let i : ℕ = c.loop-vertex.vertex in
    let later : List Line = c.next_kept.new.self.kept in
    let first : drop i kept ≡ c.in-Some.line ∷ later = sym c.loop-vertex.invariant.kept ∙ c.in-Some.ensures.kept in
    let n : ℕ = vertex_count c.args.hyper.now in
    let ws : List ℕ = c.loop-vertex.hyper.weights in
    let w : ℕ = c.in_ok-read_vertex.field-0 in
    let inside : i < length ws = omega arith in
    let written : c.set_vertex_weight.new.self.weights ≡ set ws i w = ap (λ (h : Hyper). h.weights) c.set_vertex_weight.ensures.value in
    let now : take (n - i) c.loop-vertex.lines.kept ≡ c.in-Some.line ∷ take (n - (i + 1)) later =
    ap (take (n - i)) c.in-Some.ensures.kept ∙ take_step n i c.in-Some.line later (omega arith) in
    record {
      read = ap (λ (us : List ℕ). with_front (take (i + 1) us) (each vertex_in (take (n - (i + 1)) later))) written
          ∙ ap (λ (us : List ℕ). with_front us (each vertex_in (take (n - (i + 1)) later))) (take_more_set ws i w inside)
          ∙ sym (front_ok vertex_in (take i ws) c.in-Some.line (take (n - (i + 1)) later) w (sym c.in_ok-read_vertex.ensures.value))
          ∙ sym (ap (λ (ls : List Line). with_front (take i ws) (each vertex_in ls)) now)
          ∙ c.loop-vertex.invariant.read;
      kept = drop_rest kept i c.in-Some.line later first;
      some = drop_some kept i c.in-Some.line later first;
      count = c.in-Some.ensures.count ∙ c.loop-vertex.invariant.count;
      weights = All-same (λ v. v < 2 ^ 32) c.set_vertex_weight.new.self.weights (set ws i w) written
          (All-set (λ v. v < 2 ^ 32) ws i w c.in_ok-read_vertex.ensures.bound c.loop-vertex.invariant.weights);
      size = ap length written ∙ length-set ws i w ∙ c.loop-vertex.invariant.size;
      others = weights_twice c.args.hyper.now c.loop-vertex.hyper c.set_vertex_weight.new.self (set ws i w) c.loop-vertex.invariant.others
          c.set_vertex_weight.ensures.value;
    }
