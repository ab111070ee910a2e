-- The last round of the log is the one that was made.
use Rattle.std.proofs.Common.{◌+◌, ap, ◌∙◌}
use Rattle.round_log.specs.declared.record.LoggedRound.{LoggedRound}
use Rattle.round_log.specs.Passes.{saved}
use Rattle.fm_search.proofs.LogLaws.{last_is}
use Rattle.fm_search.proofs.pass.search_round.Goals as goal

pub returns-clause-round : goal.returns-clause-round
returns-clause-round g c =
    let s = c.in_ok-part.ensures.round in
    let last = last_is c.args.log.now c.log_round.new.log s.round s.log in
    record {
      logs = s;
      kept = c.tally_last-kept.ensures.kept s.round ∙ ap (λ (r : LoggedRound). r.kept) (last s.round);
      count = c.tally_last-kept.ensures.count;
      gain = c.tally_last-kept.ensures.gain s.round ∙ ap (λ (r : LoggedRound). c.args.tally.now.gain + saved r) (last s.round);
    }

pub returns-clause-cost : goal.returns-clause-cost
returns-clause-cost g c =
    let s = c.in_ok-part.ensures.round in
    let last = last_is c.args.log.now c.log_round.new.log s.round s.log in
    c.tally_last-kept.ensures.after s.round ∙ ap (λ (r : LoggedRound). r.after) (last s.round) ∙ s.logged.after
