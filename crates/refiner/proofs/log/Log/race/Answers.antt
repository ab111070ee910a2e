use Rattle.std.proofs.Common.{◌∙◌, ap, List, [], ◌∷◌, ◌++◌}
use Rattle.round_log.specs.declared.record.LoggedRound.{LoggedRound}
use Rattle.refiner.proofs.RaceLaws.{closed_ready, closed_before, closed_recorded, closed_leads}
use Rattle.refiner.proofs.log.Log.race.Goals as goal

pub record_race-requires-clause-stands : goal.record_race-requires-clause-stands
record_race-requires-clause-stands g c κs within = (closed_ready c.args.closed c.into_parts-part.ensures.raced c.args.h.now c.requires.belongs
    c.into_parts-part.result.part c.into_parts-part.ensures.part c.into_parts-part.result.moves c.into_parts-part.ensures.moves
    c.into_parts-part.result.gains c.into_parts-part.ensures.gains).stands

pub record_race-requires-clause-raced : goal.record_race-requires-clause-raced
record_race-requires-clause-raced g c κs within = (closed_ready c.args.closed c.into_parts-part.ensures.raced c.args.h.now c.requires.belongs
    c.into_parts-part.result.part
    c.into_parts-part.ensures.part c.into_parts-part.result.moves c.into_parts-part.ensures.moves c.into_parts-part.result.gains
    c.into_parts-part.ensures.gains).raced

pub record_race-requires-clause-opened : goal.record_race-requires-clause-opened
record_race-requires-clause-opened g c κs within = (closed_ready c.args.closed c.into_parts-part.ensures.raced c.args.h.now c.requires.belongs
    c.into_parts-part.result.part c.into_parts-part.ensures.part c.into_parts-part.result.moves c.into_parts-part.ensures.moves
    c.into_parts-part.result.gains c.into_parts-part.ensures.gains).opened

pub record_race-requires-clause-sum : goal.record_race-requires-clause-sum
record_race-requires-clause-sum g c κs within = (closed_ready c.args.closed c.into_parts-part.ensures.raced c.args.h.now c.requires.belongs
    c.into_parts-part.result.part
    c.into_parts-part.ensures.part c.into_parts-part.result.moves c.into_parts-part.ensures.moves c.into_parts-part.result.gains
    c.into_parts-part.ensures.gains).sum

pub record_race-requires-clause-before : goal.record_race-requires-clause-before
record_race-requires-clause-before g c κs within = closed_before c.args.closed c.into_parts-part.ensures.raced c.args.h.now c.requires.belongs
    c.into_parts-part.result.part c.into_parts-part.ensures.part c.into_parts-part.result.moves c.into_parts-part.ensures.moves
    c.into_parts-part.result.gains c.into_parts-part.ensures.gains c.opening_cost-before.result c.opening_cost-before.ensures.value

pub returns-clause-ok : goal.returns-clause-ok
returns-clause-ok g c = record {
  round = c.in_ok-round.round;
  log = c.in_ok-push.ensures.items ∙ ap (λ (xs : List LoggedRound). xs ++ c.in_ok-round.round ∷ []) c.self.view_is;
  recorded = closed_recorded c.args.closed c.into_parts-part.ensures.raced c.args.h.now c.requires.belongs c.into_parts-part.result.part
      c.into_parts-part.ensures.part
      c.into_parts-part.result.moves c.into_parts-part.ensures.moves c.into_parts-part.result.gains c.into_parts-part.ensures.gains c.args.kind
      c.args.level c.in_ok-round.round c.in_ok-round.ensures.round;
  leads = closed_leads c.args.closed c.into_parts-part.ensures.raced c.args.h.now c.requires.belongs c.into_parts-part.result.part
      c.into_parts-part.ensures.part
      c.into_parts-part.result.moves c.into_parts-part.ensures.moves c.into_parts-part.result.gains c.into_parts-part.ensures.gains
      c.in_ok-round.round c.record_race.new.part c.in_ok-round.ensures.partition;
}
