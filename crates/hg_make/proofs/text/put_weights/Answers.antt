use Rattle.std.proofs.Common.{ℕ, List, Bool, ◌+◌, ◌++◌, [], ◌∷◌, drop, get_or, map, ap, sym, ◌∙◌, arith}
use Rattle.std.specs.Prelude.{if◌then◌else◌}
use Rattle.std.specs.Fmt.{decimal}
use Rattle.std.specs.List.{flat_map}
use Rattle.part_text.specs.NumberLines.{numbers_line}
use Rattle.hg_io.proofs.PenLemmas.{wrote, cut, exit, spelt}
use Rattle.hg_make.proofs.TextLemmas.{one_more, weights_lines-next}
use Rattle.hg_make.proofs.text.put_weights.Goals as goal

pub returns-in_err-put_token-clause-bytes : goal.returns-in_err-put_token-clause-bytes
returns-in_err-put_token-clause-bytes g c =
    let before = c.weights.invariant in
    let ws = c.args.h.now.weights in
    let v = c.weights.v in
    let line : List ℕ = decimal (get_or ws v 0) ++ 10 ∷ [] in
    let later = flat_map numbers_line (map (λ w. w ∷ []) (drop (v + 1) ws)) in
    let weighted = ap (λ (b : Bool). flat_map numbers_line (if b then map (λ w. w ∷ []) ws else [])) (sym c.if-not-weighted.false) in
    exit c.from_residual.result c.from_residual.ensures.0
    (spelt (one_more before.0 line later before.1.1 (weights_lines-next ws v (omega arith)) ∙ weighted)
    (cut later (wrote before.1.0 (spelt (ap (λ (w : ℕ). decimal w ++ 10 ∷ []) c.vertex_weight.ensures.value) c.in_err-put_token.ensures.bytes))))

pub weights-preserved : goal.weights-preserved
weights-preserved g c =
    let before = c.weights.invariant in
    let ws = c.args.h.now.weights in
    let v = c.weights.v in
    let line : List ℕ = decimal (get_or ws v 0) ++ 10 ∷ [] in
    let later = flat_map numbers_line (map (λ w. w ∷ []) (drop (v + 1) ws)) in (
      before.0 ++ line,
      (
        wrote before.1.0 (spelt (ap (λ (w : ℕ). decimal w ++ 10 ∷ []) c.vertex_weight.ensures.value) c.in_ok-put_token.ensures.bytes),
        sym (one_more before.0 line later before.1.1 (weights_lines-next ws v (omega arith))),
        c.in_ok-put_token.ensures.cause.kept ∙ before.1.2,
      ),
    )
