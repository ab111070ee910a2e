use Rattle.std.proofs.Common.{refl, arith}
use Rattle.label_prop.proofs.SettledLaws.{runs_settled}
use Rattle.label_prop.proofs.settled.ask_rest.Goals as goal

pub returns : goal.returns
returns c =
    let p = c.args.p.now in
    let some = c.requires.runs.0 in
    let end = c.loop-place-test.false in (
      λ e. runs_settled c.args.h.now p.k p.limit p.blocks c.args.runs (omega arith) (λ i l. c.loop-place.invariant.settled i (omega (arith, l, end))),
      λ settled. refl,
    )
