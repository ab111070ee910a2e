-- One number more.
use Rattle.std.proofs.Common.{◌+◌, ◌<◌, ◌∙◌, length, slice_index, arith}
use Rattle.std.proofs.lemmas.List.{get_or-set_other, get_or_default}
use Rattle.std.proofs.lemmas.List.Edits.{map_over_more}
use Rattle.hg_base.proofs.sets.raise.Goals as goal

pub loop-number-preserved : goal.loop-number-preserved
loop-number-preserved c =
    let xs = c.loop-number.numbers in
    let i = c.loop-number.number-index in
    let below : i < length xs = omega (arith, c.loop-number-test.true, c.loop-number.auto.numbers) in
    record {
      raised = map_over_more (λ n. n + c.args.by) c.args.numbers.now xs i (slice_index xs i) c.loop-number-test.true c.loop-number.invariant.raised
          (get_or_default xs i 0 (slice_index xs i) below);
      rest = λ k l. get_or-set_other xs i k _ 0 (λ e. absurd (omega arith)) ∙ c.loop-number.invariant.rest k (omega arith);
    }
