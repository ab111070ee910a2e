-- Each vertex has the number of its root.
use Rattle.std.proofs.Common.{◌≡◌, ℕ, ◌<◌, length, arith}
use Rattle.coarsen.proofs.NumberLaws.{numbered_is}
use Rattle.coarsen.proofs.numbering.number_clusters.Goals as goal

pub returns : goal.returns
returns c =
    numbered_is c.args.roots.now c.in_ok-numbers.numbers.items c.loop-root.roots c.requires.roots c.in_ok-numbers.ensures c.loop-root.auto.roots
    (λ k l. c.loop-root.invariant.done k (omega (arith, c.loop-root-test.false)))
