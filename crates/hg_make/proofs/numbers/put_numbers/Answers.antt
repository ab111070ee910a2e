use Rattle.std.proofs.Common.{◌∙◌, ℕ, List, ◌+◌, ◌++◌, [], ◌∷◌, drop, get_or, ap, sym, arith, length-drop}
use Rattle.std.specs.Fmt.{decimal}
use Rattle.part_text.specs.NumberLines.{separator, numbers_line}
use Rattle.hg_io.proofs.PenLemmas.{wrote, cut, exit, spelt}
use Rattle.hg_make.proofs.TextLemmas.{one_more, numbers_line-next}
use Rattle.hg_make.proofs.numbers.put_numbers.Goals as goal

pub returns-in_err-put_token-clause-bytes : goal.returns-in_err-put_token-clause-bytes
returns-in_err-put_token-clause-bytes g c =
    let before = c.numbers.invariant in
    let i = c.numbers.i in
    let ns = c.args.numbers.now in
    let token : List ℕ = decimal (get_or ns i 0) ++ separator (drop (i + 1) ns) ∷ [] in
    let later = numbers_line (drop (i + 1) ns) in
    let sep = c.separator.ensures (drop (i + 1) ns) (length-drop (i + 1) ns) in
    exit c.from_residual.result c.from_residual.ensures.0
    (spelt (one_more before.0 token later before.1.1 (numbers_line-next ns i (omega arith)))
    (cut later (wrote before.1.0 (spelt (ap (λ (s : ℕ). decimal (get_or ns i 0) ++ s ∷ []) sep) c.in_err-put_token.ensures.bytes))))

pub numbers-preserved : goal.numbers-preserved
numbers-preserved g c =
    let before = c.numbers.invariant in
    let i = c.numbers.i in
    let ns = c.args.numbers.now in
    let token : List ℕ = decimal (get_or ns i 0) ++ separator (drop (i + 1) ns) ∷ [] in
    let later = numbers_line (drop (i + 1) ns) in
    let sep = c.separator.ensures (drop (i + 1) ns) (length-drop (i + 1) ns) in (
      before.0 ++ token,
      (
        wrote before.1.0 (spelt (ap (λ (s : ℕ). decimal (get_or ns i 0) ++ s ∷ []) sep) c.in_ok-put_token.ensures.bytes),
        sym (one_more before.0 token later before.1.1 (numbers_line-next ns i (omega arith))),
        c.in_ok-put_token.ensures.cause.kept ∙ before.1.2,
      ),
    )
