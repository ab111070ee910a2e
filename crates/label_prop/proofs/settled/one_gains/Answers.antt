use Rattle.std.proofs.Common.{◌≡◌, ◌==◌, ◌∙◌, ℕ, not, length, vec_len, ap, sym, arith, true≢false}
use Rattle.label_prop.proofs.SettledLaws.{settled_none}
use Rattle.label_prop.proofs.settled.one_gains.Goals as goal

pub returns : goal.returns
returns c gains settled =
    let p = c.args.p.now in
    let none = c.in_ok-best.ensures ∙ settled_none c.args.h.now p.k p.limit p.blocks c.args.listed.now c.requires.vertices settled in
    let long = ap length none in
    let zero : vec_len c.in_ok-best.best ≡ 0 = omega arith in
    absurd (true≢false (sym gains ∙ ap not (c.is_empty.ensures ∙ ap (λ (n : ℕ). n == 0) zero)))
