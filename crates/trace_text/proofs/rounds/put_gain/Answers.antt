use Rattle.std.proofs.Common.{ap, w64}
use Rattle.std.specs.Fmt.{signed_decimal}
use Rattle.std.proofs.lemmas.Int.{to_z-of_z}
use Rattle.hg_io.proofs.PenLemmas.{wrote, cut, exit, spelt}
use Rattle.trace_text.proofs.rounds.put_gain.Goals as goal

pub returns-in_err-write-clause-bytes : goal.returns-in_err-write-clause-bytes
returns-in_err-write-clause-bytes g c =
    exit c.from_residual.result c.from_residual.ensures.0 (cut (signed_decimal c.args.gain) c.in_err-write.ensures.bytes)

pub returns-clause-bytes : goal.returns-clause-bytes
returns-clause-bytes g c =
    wrote c.in_ok-write.ensures.bytes (spelt (ap signed_decimal (to_z-of_z w64 c.args.gain c.ranges.gain)) c.put_signed.ensures.bytes)
