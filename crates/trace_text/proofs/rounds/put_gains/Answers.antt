use Rattle.std.proofs.Common.{get_or, ap, arith, rules, w64}
use Rattle.std.specs.Prelude.{pos}
use Rattle.std.specs.List.{flat_map}
use Rattle.std.proofs.lemmas.Int.{to_z-of_z}
use Rattle.std.proofs.lemmas.List.{at_drop_more}
use Rattle.hg_io.proofs.PenLemmas.{exit, spelt}
use Rattle.trace_text.specs.Rounds.{gain_text}
use Rattle.trace_text.proofs.TextLemmas.{line-written, line-failed}
use Rattle.trace_text.proofs.rounds.put_gains.Goals as goal
use mir.Val.{SFits}

pub returns-in_err-put_gain-clause-bytes : goal.returns-in_err-put_gain-clause-bytes
returns-in_err-put_gain-clause-bytes g c =
    let gain = get_or c.args.gains.now c.gains.gain-index (pos 0) in
    let fits : SFits w64 gain = search rules in
    exit c.from_residual.result c.from_residual.ensures.0
    (line-failed _ (at_drop_more (flat_map gain_text) c.args.gains.now c.gains.gain-index (pos 0) (omega arith)) c.gains.invariant
    (spelt (ap gain_text (to_z-of_z w64 gain fits)) c.in_err-put_gain.ensures.bytes))

pub gains-preserved : goal.gains-preserved
gains-preserved g c =
    let gain = get_or c.args.gains.now c.gains.gain-index (pos 0) in
    let fits : SFits w64 gain = search rules in
    line-written (at_drop_more (flat_map gain_text) c.args.gains.now c.gains.gain-index (pos 0) (omega arith)) c.gains.invariant
    (spelt (ap gain_text (to_z-of_z w64 gain fits)) c.in_ok-put_gain.ensures.bytes) c.in_ok-put_gain.ensures.cause.kept
