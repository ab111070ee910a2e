use Rattle.std.proofs.Common.{◌≡◌, ℕ, ◌+◌, ◌<◌, List, ◌++◌, length, drop, get_or, sym, ap, ◌∙◌, arith}
use Rattle.std.specs.List.{flat_map}
use Rattle.std.proofs.lemmas.List.{at_drop_more}
use Rattle.hg_io.proofs.PenLemmas.{exit}
use Rattle.round_log.specs.declared.record.LoggedRound.{LoggedRound}
use Rattle.trace_text.specs.Rounds.{refined_line}
use Rattle.trace_text.proofs.TextLemmas.{line-written, line-failed}
use Rattle.trace_text.proofs.rounds.put_refined.Goals as goal

step : (rounds : List LoggedRound) (i : ℕ) (r : LoggedRound) → i < length rounds → r ≡ get_or rounds i r →
    flat_map refined_line (drop i rounds) ≡ refined_line r ++ flat_map refined_line (drop (i + 1) rounds)
step rounds i r low is =
    at_drop_more (flat_map refined_line) rounds i r low ∙ ap (λ (x : LoggedRound). refined_line x ++ flat_map refined_line (drop (i + 1) rounds)) (sym is)

pub returns-in_err-put_refined_round-clause-bytes : goal.returns-in_err-put_refined_round-clause-bytes
returns-in_err-put_refined_round-clause-bytes g c =
    exit c.from_residual.result c.from_residual.ensures.0
    (line-failed _ (step c.args.rounds.now c.rounds.round-index c.round-item.result (omega arith) c.round-item.is)
    c.rounds.invariant c.in_err-put_refined_round.ensures.bytes)

pub rounds-preserved : goal.rounds-preserved
rounds-preserved g c =
    line-written (step c.args.rounds.now c.rounds.round-index c.round-item.result (omega arith) c.round-item.is)
    c.rounds.invariant c.in_ok-put_refined_round.ensures.bytes c.in_ok-put_refined_round.ensures.cause.kept
