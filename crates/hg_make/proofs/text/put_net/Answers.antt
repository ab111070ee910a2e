use Rattle.std.proofs.Common.{◌≡◌, ℕ, ◌++◌, [], ◌∷◌, ap, length, arith}
use Rattle.std.specs.Fmt.{decimal}
use Rattle.part_text.specs.NumberLines.{numbers_line}
use Rattle.hg_io.proofs.PenLemmas.{wrote, cut, exit, spelt}
use Rattle.hg_make.proofs.TextLemmas.{numbers_from, length-numbers_from, net_line-weighted}
use Rattle.hg_make.proofs.text.put_net.Goals as goal

pub returns-in_err-put_token-clause-bytes : goal.returns-in_err-put_token-clause-bytes
returns-in_err-put_token-clause-bytes g c =
    let pins = c.args.pins.now in
    let all : length (numbers_from pins 0) ≡ length pins = omega (arith, length-numbers_from pins 0) in
    let sep = c.separator.ensures (numbers_from pins 0) all in
    exit c.from_residual.result c.from_residual.ensures.0
    (spelt (net_line-weighted c.args.weighted c.args.weight pins c.if-not-weighted.false)
    (cut (numbers_line (numbers_from pins 0)) (spelt (ap (λ (s : ℕ). decimal c.args.weight ++ s ∷ []) sep) c.in_err-put_token.ensures.bytes)))

pub returns-clause-bytes : goal.returns-clause-bytes
returns-clause-bytes g c =
    let pins = c.args.pins.now in
    let all : length (numbers_from pins 0) ≡ length pins = omega (arith, length-numbers_from pins 0) in
    let sep = c.separator.ensures (numbers_from pins 0) all in
    spelt (net_line-weighted c.args.weighted c.args.weight pins c.if-not-weighted.false)
    (wrote (spelt (ap (λ (s : ℕ). decimal c.args.weight ++ s ∷ []) sep) c.in_ok-put_token.ensures.bytes) c.put_pins-2.ensures.bytes)
