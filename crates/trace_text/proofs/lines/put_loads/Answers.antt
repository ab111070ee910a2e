use Rattle.std.proofs.Common.{◌≡◌, ℕ, List, ◌+◌, ◌++◌, drop, get_or, ap, sym, ◌∙◌, append_assoc, arith}
use Rattle.std.specs.List.{flat_map, enumerate_from}
use Rattle.trace_text.specs.Lines.{load_line, loads_text}
use Rattle.hg_io.proofs.PenLemmas.{wrote, cut, exit, spelt}
use Rattle.trace_text.proofs.LoadLemmas.{loads-next}
use Rattle.trace_text.proofs.lines.put_loads.Goals as goal

pub returns-in_err-put_load-clause-bytes : goal.returns-in_err-put_load-clause-bytes
returns-in_err-put_load-clause-bytes g c =
    let before = c.loads.invariant in
    let i = c.loads.block in
    let loads = c.args.loads.now in
    let later = flat_map load_line (enumerate_from (i + 1) (drop (i + 1) loads)) in
    let line = load_line (i, get_or loads i 0) in
    let whole : (before.0 ++ line) ++ later ≡ loads_text loads =
    append_assoc before.0 line later ∙ ap (λ (l : List ℕ). before.0 ++ l) (sym (loads-next loads i (omega arith))) ∙ sym before.1.1 in
    exit c.from_residual.result c.from_residual.ensures.0 (spelt whole (cut later (wrote before.1.0 c.in_err-put_load.ensures.bytes)))

pub loads-preserved : goal.loads-preserved
loads-preserved g c =
    let before = c.loads.invariant in
    let i = c.loads.block in
    let loads = c.args.loads.now in
    let later = flat_map load_line (enumerate_from (i + 1) (drop (i + 1) loads)) in
    let line = load_line (i, get_or loads i 0) in
    let whole : (before.0 ++ line) ++ later ≡ loads_text loads =
    append_assoc before.0 line later ∙ ap (λ (l : List ℕ). before.0 ++ l) (sym (loads-next loads i (omega arith))) ∙ sym before.1.1 in
    (before.0 ++ line, (wrote before.1.0 c.in_ok-put_load.ensures.bytes, sym whole, c.in_ok-put_load.ensures.cause.kept ∙ before.1.2))
