use Rattle.std.proofs.Common.{ℕ, List, ◌+◌, ◌++◌, [], ◌∷◌, get_or, ap, sym, ◌∙◌, arith}
use Rattle.std.specs.Fmt.{decimal}
use Rattle.part_text.specs.NumberLines.{separator, numbers_line}
use Rattle.hg_io.proofs.PenLemmas.{wrote, cut, exit, spelt}
use Rattle.hg_make.proofs.TextLemmas.{numbers_from, length-numbers_from, one_more, pins_line-next}
use Rattle.hg_make.proofs.numbers.put_pins.Goals as goal

pub returns-in_err-put_token-clause-bytes : goal.returns-in_err-put_token-clause-bytes
returns-in_err-put_token-clause-bytes g c =
    let before = c.pins.invariant in
    let i = c.pins.i in
    let pins = c.args.pins.now in
    let more = numbers_from pins (i + 1) in
    let token : List ℕ = decimal (get_or pins i 0 + 1) ++ separator more ∷ [] in
    let sep = c.separator.ensures more (length-numbers_from pins (i + 1)) in
    exit c.from_residual.result c.from_residual.ensures.0
    (spelt (one_more before.0 token (numbers_line more) before.1.1 (pins_line-next pins i (omega arith)))
    (cut (numbers_line more) (wrote before.1.0 (spelt (ap (λ (n : ℕ). decimal (n + 1) ++ c.separator.result ∷ []) c.from.ensures ∙
    ap (λ (s : ℕ). decimal (get_or pins i 0 + 1) ++ s ∷ []) sep) c.in_err-put_token.ensures.bytes))))

pub pins-preserved : goal.pins-preserved
pins-preserved g c =
    let before = c.pins.invariant in
    let i = c.pins.i in
    let pins = c.args.pins.now in
    let more = numbers_from pins (i + 1) in
    let token : List ℕ = decimal (get_or pins i 0 + 1) ++ separator more ∷ [] in
    let sep = c.separator.ensures more (length-numbers_from pins (i + 1)) in (
      before.0 ++ token,
      (
        wrote before.1.0 (spelt (ap (λ (n : ℕ). decimal (n + 1) ++ c.separator.result ∷ []) c.from.ensures ∙
            ap (λ (s : ℕ). decimal (get_or pins i 0 + 1) ++ s ∷ []) sep) c.in_ok-put_token.ensures.bytes),
        sym (one_more before.0 token (numbers_line more) before.1.1 (pins_line-next pins i (omega arith))),
        c.in_ok-put_token.ensures.cause.kept ∙ before.1.2,
      ),
    )
