use Rattle.std.proofs.Common.{◌≡◌, ◌∙◌, length, nat_lt, false, ap, arith}
use Rattle.flow_net.proofs.NearLaws.{sink_missed, reached_shut}
use Rattle.flow_net.proofs.cut.flag_near.Goals as goal

pub returns-clause-sink : goal.returns-clause-sink
returns-clause-sink c =
    let g = c.args.halves in
    let long : length c.search.new.levels ≡ length g.firsts.now = c.search.auto.levels ∙ c.requires.levels in
    let missed : c.search.result ≡ false =
    sink_missed g.heads.now g.nexts.now g.firsts.now c.args.rests.now c.turn.new.rests g.linked (λ h l. c.turn.ensures h (omega arith))
    c.args.levels.now c.search.new.levels c.search.new.ways g.source g.sink c.search.result long (omega (arith, g.sink_in)) c.requires.source
    c.requires.sink c.requires.closed c.search.ensures.tree c.search.ensures.open_ways c.search.ensures.reached in
    c.flag_reached.ensures g.sink (omega (arith, g.sink_in)) ∙ ap (nat_lt 0) (c.search.ensures.unreached missed)

pub returns-clause-shut : goal.returns-clause-shut
returns-clause-shut c =
    let g = c.args.halves in
    let long : length c.search.new.levels ≡ length g.firsts.now = c.search.auto.levels ∙ c.requires.levels in
    let missed : c.search.result ≡ false =
    sink_missed g.heads.now g.nexts.now g.firsts.now c.args.rests.now c.turn.new.rests g.linked (λ h l. c.turn.ensures h (omega arith))
    c.args.levels.now c.search.new.levels c.search.new.ways g.source g.sink c.search.result long (omega (arith, g.sink_in)) c.requires.source
    c.requires.sink c.requires.closed c.search.ensures.tree c.search.ensures.open_ways c.search.ensures.reached in
    reached_shut g.heads.now g.nexts.now g.firsts.now c.args.rests.now c.turn.new.rests g.linked (λ h l. c.turn.ensures h (omega arith))
    c.search.new.levels c.flag_reached.new.near (omega arith) (c.search.ensures.closed missed) c.flag_reached.ensures
