use Rattle.std.proofs.Common.{◌≡◌, [], refl, sym, inl}
use Rattle.std.proofs.lemmas.List.{append-nil}
use Rattle.std.proofs.lemmas.List.Elements.{All-nil}
use Rattle.round_log.specs.declared.record.LoggedRound.{LoggedRound}
use Rattle.descent_tests.proofs.cycles.RestsRefiner.refine.Goals as goal

pub returns-then-settled-clause-pass : goal.returns-then-settled-clause-pass
returns-then-settled-clause-pass c = record {
  logged = record {
    rounds = [];
    log = sym (append-nil c.args._log.now);
    pass = inl (c.settled.ensures.0 c.if-settled.true);
    level = All-nil (λ (r : LoggedRound). r.level ≡ c.args.task.now.level);
    count = refl;
    gain = refl;
  };
  leads = refl;
}
